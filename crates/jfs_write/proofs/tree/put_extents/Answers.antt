use Rattle.std.proofs.Common.{ap, ◌∙◌, length}
use Rattle.jfs_disk.specs.Image.{page_of}
use Rattle.jfs_tree.specs.Fresh.{blocks_of}
use Rattle.jfs_write_pages.specs.Spots.{extents_for}
use Rattle.jfs_write.proofs.Moves.{puts_some, not_none}
use Rattle.jfs_write.proofs.tree.put_extents.Goals as goal

pub returns-in-Ok-put_range-clause-puts : goal.returns-in-Ok-put_range-clause-puts
returns-in-Ok-put_range-clause-puts g c tells =
    puts_some (g.V.PageView.block_count c.args.view.now) (page_of (g.V.PageView.image c.args.view.now)) (extents_for c.args.spots.now) c.args.root.now c.put_range.new.root (blocks_of c.args.fresh.now) (blocks_of c.put_range.new.fresh) c.args.tx.now c.put_range.new.tx
    (not_none c.len.result (length (extents_for c.args.spots.now)) (c.len.ensures ∙ ap length c.in-Ok.ensures) c.if-len-eq0.false) (record {
      writes = rw c.in-Ok.ensures at (c.in-Ok-put_range.ensures.writes tells);
      edits = c.in-Ok-put_range.ensures.edits tells;
      thin = c.in-Ok-put_range.ensures.thin tells;
      named = c.in-Ok-put_range.ensures.named tells;
      frame = c.put_range.ensures.frame;
    })
