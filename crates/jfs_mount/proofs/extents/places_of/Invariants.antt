use Rattle.std.proofs.Common.{◌≡◌, ◌<◌, ◌≤◌, ◌*◌, ℕ, length}
use Rattle.jfs_disk.specs.Image.{page_of}
use Rattle.jfs_reader.specs.objects.specs.Contents.{block_of}
use Rattle.jfs_each.specs.Each.{AllFit}
use Rattle.jfs_mount.proofs.Inodes.{AreAdded}
use Rattle.jfs_mount.proofs.extents.places_of.Given as goal

abbrev pub invariant-loop-i : goal.invariant-loop-i
invariant-loop-i g l = record {
  image : g.V.PageView.tells → g.V.PageView.image l.view ≡ g.V.PageView.image l.fn.view;
  blocks : g.V.PageView.block_count l.view ≡ g.V.PageView.block_count l.fn.view;
  device : g.V.PageView.device l.view ≡ g.V.PageView.device l.fn.view;
  count : g.V.PageView.faults l.view ≡ g.V.PageView.faults l.fn.view;
  same : (k : ℕ) → l.i < k → block_of l.rest k ≡ block_of l.maps.inodes.extents k;
  few : l.i ≤ l.most;
  all : length l.places.items ≡ 128 * l.i;
  fit : AllFit l.maps.blocks l.places.items;
  added : g.V.PageView.tells → AreAdded l.maps.blocks (page_of (g.V.PageView.image l.fn.view)) l.maps.inodes.extents (128 * l.i) l.places.items;
}
