use Rattle.std.proofs.Common.{◌≡◌, drop}
use Rattle.jfs_disk.specs.Image.{page_of}
use Rattle.jfs_marks.specs.Owners.{no_owner, last_owner}
use Rattle.jfs_marks.proofs.notes.last_owner.Given as goal

abbrev pub invariant-loop-edit : goal.invariant-loop-edit
invariant-loop-edit g l = record {
  image : g.V.PageView.tells → g.V.PageView.image l.view ≡ g.V.PageView.image l.fn.view;
  count_of_blocks : g.V.PageView.block_count l.view ≡ g.V.PageView.block_count l.fn.view;
  device : g.V.PageView.device l.view ≡ g.V.PageView.device l.fn.view;
  fault : g.V.PageView.faults l.view ≡ g.V.PageView.faults l.fn.view;
  last : g.V.PageView.tells → last_owner (g.V.PageView.block_count l.fn.view) (page_of (g.V.PageView.image l.fn.view)) l.tx (drop l.edit-index l.tx) l.last
      ≡ last_owner (g.V.PageView.block_count l.fn.view) (page_of (g.V.PageView.image l.fn.view)) l.tx l.tx no_owner;
}
