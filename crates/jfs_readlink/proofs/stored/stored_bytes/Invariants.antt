use Rattle.std.proofs.Common.{◌≡◌, ◌++◌, ◌*◌, ◌-◌}
use Rattle.jfs_disk.specs.Image.{page_of}
use Rattle.jfs_plain.specs.Step.{bytes_from}
use Rattle.jfs_readlink.specs.Target.{byte_at}
use Rattle.jfs_readlink.proofs.stored.stored_bytes.Given as goal

abbrev pub invariant-loop-j : goal.invariant-loop-j
invariant-loop-j g l = record {
  image : g.V.PageView.tells → g.V.PageView.image l.view ≡ g.V.PageView.image l.fn.view;
  count_of_blocks : g.V.PageView.block_count l.view ≡ g.V.PageView.block_count l.fn.view;
  device : g.V.PageView.device l.view ≡ g.V.PageView.device l.fn.view;
  fault : g.V.PageView.faults l.view ≡ g.V.PageView.faults l.fn.view;
  bytes : g.V.PageView.tells → l.bytes ++ bytes_from (byte_at (page_of (g.V.PageView.image l.fn.view)) l.extents) (4096 * l.j) (l.count - 4096 * l.j) ≡ bytes_from (byte_at (page_of (g.V.PageView.image l.fn.view)) l.extents) 0 l.count;
}
