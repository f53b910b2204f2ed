use Rattle.std.proofs.Common.{◌≡◌, ◌≤◌, ◌+◌, ◌*◌, ℕ, length}
use Rattle.jfs_disk.specs.Image.{page_of}
use Rattle.jfs_mount.specs.objects.specs.Contents.{block_of}
use Rattle.jfs_sets.specs.Parts.{part_of}
use Rattle.jfs_sets.proofs.Bits.{IsReading}
use Rattle.jfs_sets.proofs.parts.read_parts.Given as goal

abbrev pub invariant-loop-k : goal.invariant-loop-k
invariant-loop-k g l = record {
  rest : (j : ℕ) → l.first + l.k ≤ j → block_of l.rest j ≡ block_of l.extents j;
  image : g.V.PageView.tells → g.V.PageView.image l.view ≡ g.V.PageView.image l.fn.view;
  count_of_blocks : g.V.PageView.block_count l.view ≡ g.V.PageView.block_count l.fn.view;
  device : g.V.PageView.device l.view ≡ g.V.PageView.device l.fn.view;
  fault : g.V.PageView.faults l.view ≡ g.V.PageView.faults l.fn.view;
  size : length l.bytes.items ≡ g.row.N * l.k;
  reading : g.V.PageView.tells → IsReading g.row.N (part_of (page_of (g.V.PageView.image l.fn.view)) l.extents l.at g.row.N) l.first l.pages l.k l.bytes.items;
}
