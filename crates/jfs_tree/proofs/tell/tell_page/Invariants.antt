use Rattle.std.proofs.Common.{◌≡◌, ◌≤◌, ◌+◌, ◌-◌, ◌*◌, ◌++◌, List, ℕ, take, drop}
use Rattle.jfs_tree.specs.Tell.{LeavesOthers}
use Rattle.jfs_ranges.specs.Apply.{apply_tx}
use Rattle.jfs_tree.proofs.RunsTold.{RunsSoFar}
use Rattle.jfs_tree.proofs.tell.tell_page.Given as goal

abbrev pub invariant-loop-first : goal.invariant-loop-first
invariant-loop-first l =
    (l.first ≤ l.lines + 1) × ((content : List ℕ) → apply_tx l.n l.fn.tx content ≡ l.old.0 → apply_tx l.n l.tx content ≡ take (l.size * l.first) l.new.0 ++ drop (l.size * l.first) l.old.0) × LeavesOthers l.n l.fn.tx l.tx
    × RunsSoFar l.n l.kind l.old.0 l.new.0 l.first l.fn.tx l.tx

abbrev pub decreases-loop-first : goal.decreases-loop-first
decreases-loop-first l = l.lines + 1 - l.first
