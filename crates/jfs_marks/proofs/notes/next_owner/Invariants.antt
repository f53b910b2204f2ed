use Rattle.std.proofs.Common.{◌≡◌, ◌≤◌, ℕ, drop}
use Rattle.jfs_disk.specs.Image.{page_of}
use Rattle.jfs_marks.specs.Owners.{next_owner}
use Rattle.jfs_marks.proofs.notes.next_owner.Given as goal

abbrev pub invariant-loop-i : goal.invariant-loop-i
invariant-loop-i g l = record {
  image : g.V.PageView.tells → g.V.PageView.image l.view ≡ g.V.PageView.image l.fn.view;
  count_of_blocks : g.V.PageView.block_count l.view ≡ g.V.PageView.block_count l.fn.view;
  device : g.V.PageView.device l.view ≡ g.V.PageView.device l.fn.view;
  fault : g.V.PageView.faults l.view ≡ g.V.PageView.faults l.fn.view;
  passed : g.V.PageView.tells → (j : ℕ) → l.from ≤ j → j ≤ l.i → next_owner (g.V.PageView.block_count l.fn.view) (page_of (g.V.PageView.image l.fn.view)) l.tx l.last (drop j l.tx)
      ≡ next_owner (g.V.PageView.block_count l.fn.view) (page_of (g.V.PageView.image l.fn.view)) l.tx l.last (drop l.i l.tx);
}
