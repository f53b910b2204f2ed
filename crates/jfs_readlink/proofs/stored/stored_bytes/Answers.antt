use Rattle.std.proofs.Common.{sym, ◌∙◌, ◌*◌, ◌-◌, arith}
use Rattle.jfs_disk.specs.Image.{page_of}
use Rattle.jfs_plain.proofs.Splice.{bytes_none}
use Rattle.jfs_readlink.specs.Target.{byte_at}
use Rattle.jfs_readlink.proofs.Bytes.{more_blocks}
use Rattle.jfs_readlink.proofs.stored.stored_bytes.Goals as goal

pub loop-j-preserved : goal.loop-j-preserved
loop-j-preserved g c =
    let i = c.loop-j.invariant in
    let pushed = c.in-Ok.ensures in
    record {
      image = λ told. c.push_part.ensures.image told ∙ i.image told;
      count_of_blocks = c.push_part.ensures.count_of_blocks ∙ i.count_of_blocks;
      device = c.push_part.ensures.device ∙ i.device;
      fault = pushed.fault ∙ i.fault;
      bytes = λ told. rw (pushed.bytes told, i.image told)
          (more_blocks (byte_at (page_of (g.V.PageView.image c.args.view.now)) c.args.extents.now) c.loop-j.bytes c.loop-j.j c.args.count c.min-n.result (omega (arith, c.loop-j-test.true, c.blocks_for-j-end.ensures.least)) (omega (arith, c.min-n.ensures)) ∙ i.bytes told);
    }

pub returns-clause-bytes : goal.returns-clause-bytes
returns-clause-bytes g c told =
    sym (bytes_none (byte_at (page_of (g.V.PageView.image c.args.view.now)) c.args.extents.now) c.loop-j.bytes (4096 * c.loop-j.j) (c.args.count - 4096 * c.loop-j.j) (omega (arith, c.loop-j-test.false, c.blocks_for-j-end.ensures.enough)))
    ∙ c.loop-j.invariant.bytes told
