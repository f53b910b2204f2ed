use Rattle.std.proofs.Common.{◌≡◌, ◌≤◌, ◌<◌, ◌*◌, ℕ}
use Rattle.jfs_bits.specs.Bits.{is_taken}
use Rattle.jfs_disk.specs.Image.{page_of}
use Rattle.jfs_findings.specs.objects.specs.Contents.{block_of}
use Rattle.jfs_findings.specs.Gains.{Gains}
use Rattle.jfs_map_check.specs.Inodes.{IsWrongIagBelow, AreTotals}
use Rattle.jfs_map_check.proofs.inode_map.check_iags.Given as goal

abbrev pub invariant-loop-k : goal.invariant-loop-k
invariant-loop-k g l = record {
  rest : (j : ℕ) → l.k < j → block_of l.rest j ≡ block_of l.extents j;
  image : g.V.PageView.tells → g.V.PageView.image l.view ≡ g.V.PageView.image l.fn.view;
  count_of_blocks : g.V.PageView.block_count l.view ≡ g.V.PageView.block_count l.fn.view;
  device : g.V.PageView.device l.view ≡ g.V.PageView.device l.fn.view;
  fault : g.V.PageView.faults l.view ≡ g.V.PageView.faults l.fn.view;
  extents_most : l.there ≤ 128 * l.k;
  free_most : l.free ≤ 4096 * l.k;
  totals : g.V.PageView.tells → AreTotals (is_taken l.used) (page_of (g.V.PageView.image l.fn.view)) l.extents l.k l.there l.free;
  findings : g.V.PageView.tells → Gains (IsWrongIagBelow (is_taken l.used) (page_of (g.V.PageView.image l.fn.view)) l.extents l.k) l.fn.findings.items l.findings.items;
}
