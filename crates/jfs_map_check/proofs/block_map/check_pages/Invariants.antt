use Rattle.std.proofs.Common.{◌≡◌, ◌≤◌, ℕ, length}
use Rattle.jfs_disk.specs.Image.{page_of}
use Rattle.jfs_bmap.specs.Set.{taken_at}
use Rattle.jfs_findings.specs.objects.specs.Contents.{block_of}
use Rattle.jfs_findings.specs.Gains.{Gains}
use Rattle.jfs_map_check.specs.Found.{IsWrongBelow}
use Rattle.jfs_map_check.proofs.block_map.check_pages.Given as goal

abbrev pub invariant-loop-j : goal.invariant-loop-j
invariant-loop-j g l = record {
  rest : (k : ℕ) → l.j ≤ k → block_of l.rest k ≡ block_of l.extents k;
  image : g.V.PageView.tells → g.V.PageView.image l.view ≡ g.V.PageView.image l.fn.view;
  count_of_blocks : g.V.PageView.block_count l.view ≡ g.V.PageView.block_count l.fn.view;
  device : g.V.PageView.device l.view ≡ g.V.PageView.device l.fn.view;
  fault : g.V.PageView.faults l.view ≡ g.V.PageView.faults l.fn.view;
  findings : g.V.PageView.tells → Gains (IsWrongBelow (length l.map.owned) l.map.agsize (taken_at l.map.owned) (page_of (g.V.PageView.image l.fn.view)) l.extents l.j) l.fn.findings.items l.findings.items;
}
