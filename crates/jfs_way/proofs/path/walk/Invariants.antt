use Rattle.std.proofs.Common.{◌≡◌, drop}
use Rattle.jfs_disk.specs.Image.{page_of}
use Rattle.jfs_way.specs.Walk.{HasCome}
use Rattle.jfs_way.proofs.path.walk.Given as goal

abbrev pub invariant-loop-name : goal.invariant-loop-name
invariant-loop-name g l = record {
  image : g.V.PageView.tells → g.V.PageView.image l.view ≡ g.V.PageView.image l.fn.view;
  count_of_blocks : g.V.PageView.block_count l.view ≡ g.V.PageView.block_count l.fn.view;
  device : g.V.PageView.device l.view ≡ g.V.PageView.device l.fn.view;
  fault : g.V.PageView.faults l.view ≡ g.V.PageView.faults l.fn.view;
  come : HasCome g.V.PageView.tells (g.V.PageView.block_count l.fn.view) (page_of (g.V.PageView.image l.fn.view)) l.inodes l.path (drop l.name-index l.path) l.at;
}
