use Rattle.std.proofs.Common.{◌≢◌, ◌+◌, ◌<◌, ℕ}
use Rattle.jfs_buddy.specs.Tree.{leaf_at}
use Rattle.jfs_buddy.specs.Buddy.{start_of}
use Rattle.jfs_buddy.proofs.join.level_of.Given as goal

abbrev pub invariant-loop-k : goal.invariant-loop-k
invariant-loop-k l = (j : ℕ) → j < l.k → leaf_at l.height l.tree (start_of j l.leaf) ≢ l.whole + j
