use Rattle.std.proofs.Common.{◌+◌, ◌*◌, ◌<◌, ℕ}
use Rattle.jfs_buddy.specs.Tree.{rank_at}
use Rattle.jfs_buddy.proofs.tree.first_fitting.Given as goal

abbrev pub invariant-loop-i : goal.invariant-loop-i
invariant-loop-i l = (k : ℕ) → k < l.i → rank_at l.tree (4 * l.n + 1 + k) < l.least
