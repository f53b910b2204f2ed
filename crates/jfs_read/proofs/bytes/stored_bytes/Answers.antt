use Rattle.std.proofs.Common.{◌≡◌, ◌+◌, ◌-◌, ◌/◌, ◌++◌, ◌∙◌, refl, ap, ap₂, ℕ, List, arith}
use Rattle.jfs_disk.specs.Image.{page_of}
use Rattle.jfs_plain.specs.Step.{bytes_from}
use Rattle.jfs_read.specs.Read.{byte_on_way, broken_in, touched}
use Rattle.jfs_read.proofs.Parts.{parts_join, none}
use Rattle.jfs_read.proofs.Steps.{on, ends, whole}
use Rattle.jfs_read.proofs.bytes.stored_bytes.Goals as goal

pub loop-done-init : goal.loop-done-init
loop-done-init g c =
    let from : c.args.offset ≡ c.args.offset + 0 = omega arith in
    let left : c.args.count ≡ c.args.count - 0 = omega arith in
    let b = g.V.PageView.block_count c.args.view.now in
    let p = page_of (g.V.PageView.image c.args.view.now) in
    record {
      most = omega arith;
      image = λ t. refl;
      count_of_blocks = refl;
      device = refl;
      faults = refl;
      bytes = λ t. c.new-bytes.ensures ∙ none (byte_on_way b p c.args.at.now.inode) c.args.offset;
      ways = λ t. ap₂ (λ (i n : ℕ). broken_in b p c.args.at.now.inode (i / 4096) (touched i n)) from left;
    }

pub loop-done-preserved : goal.loop-done-preserved
loop-done-preserved g c =
    let b = g.V.PageView.block_count c.args.view.now in
    let p = page_of (g.V.PageView.image c.args.view.now) in
    let i = c.loop-done.invariant in
    record {
      most = (let m = c.min-part.ensures in let t = c.loop-done-test.true in omega (arith, m, t));
      image = λ t. c.push_part.ensures.image t ∙ i.image t;
      count_of_blocks = c.push_part.ensures.count_of_blocks ∙ i.count_of_blocks;
      device = c.push_part.ensures.device ∙ i.device;
      faults = c.in-Ok.ensures.fault ∙ i.faults;
      bytes = λ t. c.in-Ok.ensures.part t ∙ rw (c.from.ensures, i.count_of_blocks, i.image t) (
          ap (λ (bs : List ℕ). bs ++ bytes_from (byte_on_way b p c.args.at.now.inode) (c.args.offset + c.loop-done.done) c.min-part.result) (i.bytes t)
          ∙ parts_join (byte_on_way b p c.args.at.now.inode) c.args.offset c.loop-done.done c.min-part.result);
      ways = λ t. i.ways t ∙ on b p c.args.at.now c.args.offset (c.args.offset + c.loop-done.done) (c.args.count - c.loop-done.done) c.min-part.result (let l = c.loop-done-test.true in omega (arith, l)) (rw c.from.ensures at c.min-part.ensures)
          (rw (c.from.ensures, i.count_of_blocks, i.image t) at (c.in-Ok.ensures.way t))
          ∙ ap₂ (λ (j n : ℕ). broken_in b p c.args.at.now.inode (j / 4096) (touched j n)) (omega arith) (omega arith);
    }

pub returns-in-Err-clause-meets : goal.returns-in-Err-clause-meets
returns-in-Err-clause-meets g c tells =
    let i = c.loop-done.invariant in
    ends (g.V.PageView.block_count c.args.view.now) (page_of (g.V.PageView.image c.args.view.now)) c.args.at.now c.args.offset c.args.count c.loop-done.done c.min-part.result c.in-Err.e
    c.loop-done-test.true (rw c.from.ensures at c.min-part.ensures) (i.ways tells) (rw (c.from.ensures, i.count_of_blocks, i.image tells) at (c.in-Err.ensures.way tells))

pub returns-clause-meets : goal.returns-clause-meets
returns-clause-meets g c tells = whole (g.V.PageView.block_count c.args.view.now) (page_of (g.V.PageView.image c.args.view.now)) c.args.at.now c.args.offset c.args.count c.loop-done.done c.loop-done.bytes
    (omega (arith, c.loop-done-test.false)) c.loop-done.invariant.most (c.loop-done.invariant.ways tells) (c.loop-done.invariant.bytes tells)
