use Rattle.std.proofs.Common.{◌<◌, ◌≤◌, ℕ}
use Rattle.jfs_tree.specs.Tell.{SameLine}
use Rattle.jfs_tree.proofs.tell.run_end.Given as goal

abbrev pub invariant-loop-i : goal.invariant-loop-i
invariant-loop-i l = (j : ℕ) → l.first ≤ j → j < l.i → SameLine l.size j l.old.0 l.new.0 → ⊥
