use Rattle.std.proofs.Common.{◌≡◌}
use Rattle.jfs_disk.specs.Image.{page_of}
use Rattle.jfs_marks.specs.Changes.{pages_changes, first_told}
use Rattle.jfs_marks.proofs.changes.edit_changes.Given as goal

abbrev pub invariant-loop-i : goal.invariant-loop-i
invariant-loop-i g l = record {
  image : g.V.PageView.tells → g.V.PageView.image l.view ≡ g.V.PageView.image l.fn.view;
  count_of_blocks : g.V.PageView.block_count l.view ≡ g.V.PageView.block_count l.fn.view;
  device : g.V.PageView.device l.view ≡ g.V.PageView.device l.fn.view;
  fault : g.V.PageView.faults l.view ≡ g.V.PageView.faults l.fn.view;
  changes : g.V.PageView.tells → l.changes ≡ pages_changes (g.V.PageView.block_count l.fn.view) (page_of (g.V.PageView.image l.fn.view)) l.change.inodes.now l.change.founded l.change.tx.now l.change.written.now (first_told l.edit) l.i l.initial.changes;
}
