use Rattle.std.proofs.Common.{◌≡◌, drop}
use Rattle.jfs_disk.specs.Image.{page_of}
use Rattle.jfs_marks.specs.Changes.{edits_changes, tx_changes}
use Rattle.jfs_marks.proofs.changes.tx_changes.Given as goal

abbrev pub invariant-loop-edit : goal.invariant-loop-edit
invariant-loop-edit g l = record {
  image : g.V.PageView.tells → g.V.PageView.image l.view ≡ g.V.PageView.image l.fn.view;
  count_of_blocks : g.V.PageView.block_count l.view ≡ g.V.PageView.block_count l.fn.view;
  device : g.V.PageView.device l.view ≡ g.V.PageView.device l.fn.view;
  fault : g.V.PageView.faults l.view ≡ g.V.PageView.faults l.fn.view;
  changes : g.V.PageView.tells → edits_changes (g.V.PageView.block_count l.fn.view) (page_of (g.V.PageView.image l.fn.view)) l.change.inodes.now l.change.founded l.change.tx.now l.change.written.now (drop l.edit-index l.change.tx.now) l.changes
      ≡ tx_changes (g.V.PageView.block_count l.fn.view) (page_of (g.V.PageView.image l.fn.view)) l.change.inodes.now l.change.founded l.change.tx.now l.change.written.now;
}
