use Rattle.std.proofs.Common.{◌≡◌, ◌≤◌, ◌<◌, ◌++◌, ℕ, length, drop}
use Rattle.jfs_disk.specs.Image.{page_of}
use Rattle.jfs_marks.specs.Owners.{next_owner}
use Rattle.jfs_marks.specs.Notes.{notes_from, notes_on}
use Rattle.jfs_marks.proofs.notes.notes_of.Given as goal

abbrev pub invariant-loop-i : goal.invariant-loop-i
invariant-loop-i g l = record {
  image : g.V.PageView.tells → g.V.PageView.image l.view ≡ g.V.PageView.image l.fn.view;
  count_of_blocks : g.V.PageView.block_count l.view ≡ g.V.PageView.block_count l.fn.view;
  device : g.V.PageView.device l.view ≡ g.V.PageView.device l.fn.view;
  fault : g.V.PageView.faults l.view ≡ g.V.PageView.faults l.fn.view;
  each : length l.notes ≡ l.i;
  next : g.V.PageView.tells → (j : ℕ) → l.i ≤ j → j < l.next.until → next_owner (g.V.PageView.block_count l.fn.view) (page_of (g.V.PageView.image l.fn.view)) l.tx l.last (drop j l.tx) ≡ l.next.owner;
  notes : g.V.PageView.tells → l.notes ++ notes_from (g.V.PageView.block_count l.fn.view) (page_of (g.V.PageView.image l.fn.view)) l.tx l.last l.object (drop l.i l.tx)
      ≡ notes_on (g.V.PageView.block_count l.fn.view) (page_of (g.V.PageView.image l.fn.view)) l.tx;
}
