use Rattle.std.proofs.Common.{◌≡◌, ◌*◌}
use Rattle.jfs_disk.specs.Image.{page_of}
use Rattle.jfs_each.specs.Each.{found_at, Visits}
use Rattle.jfs_each.proofs.each.each_inode.Given as goal

abbrev pub invariant-loop-e : goal.invariant-loop-e
invariant-loop-e g l = record {
  blocks : g.V.PageView.block_count l.view ≡ g.V.PageView.block_count l.initial.view;
  device : g.V.PageView.device l.view ≡ g.V.PageView.device l.initial.view;
  count : g.V.PageView.faults l.view ≡ g.V.PageView.faults l.initial.view;
  image : g.V.PageView.tells → g.V.PageView.image l.view ≡ g.V.PageView.image l.initial.view;
  visits : g.V.PageView.tells → Visits (g.W.EachInode.sees (g.V.PageView.block_count l.initial.view) (g.V.PageView.image l.initial.view))
      (found_at (page_of (g.V.PageView.image l.initial.view)) l.places) 0 (32 * l.e) l.initial.visitor l.visitor;
}
