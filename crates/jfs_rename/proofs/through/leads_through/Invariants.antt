use Rattle.std.proofs.Common.{◌≡◌, drop}
use Rattle.jfs_disk.specs.Image.{page_of}
use Rattle.jfs_rename.specs.Through.{HasGone}
use Rattle.jfs_rename.proofs.through.leads_through.Given as goal

abbrev pub invariant-loop-name : goal.invariant-loop-name
invariant-loop-name g l = record {
  image : g.V.PageView.tells → g.V.PageView.image l.view ≡ g.V.PageView.image l.fn.view;
  count_of_blocks : g.V.PageView.block_count l.view ≡ g.V.PageView.block_count l.fn.view;
  device : g.V.PageView.device l.view ≡ g.V.PageView.device l.fn.view;
  fault : g.V.PageView.faults l.view ≡ g.V.PageView.faults l.fn.view;
  gone : HasGone g.V.PageView.tells (g.V.PageView.block_count l.fn.view) (page_of (g.V.PageView.image l.fn.view)) l.inodes l.names (drop l.name-index l.names) l.n l.at;
}
