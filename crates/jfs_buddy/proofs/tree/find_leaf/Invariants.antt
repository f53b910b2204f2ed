use Rattle.std.proofs.Common.{◌+◌, ◌-◌, ◌*◌, ◌<◌, ◌≤◌, ℕ}
use Rattle.jfs_buddy.specs.Tree.{rank_at, first_of, leaves_of, leaf_at}
use Rattle.jfs_buddy.proofs.tree.find_leaf.Given as goal

-- `n` is on its level, a fitting leaf is below it, and none is to the left of it
abbrev pub invariant-loop-depth : goal.invariant-loop-depth
invariant-loop-depth l = record {
  level : first_of l.depth ≤ l.n;
  within : l.n < first_of l.depth + leaves_of l.depth;
  fits : l.least ≤ rank_at l.tree l.n;
  left : (v : ℕ) → v < (l.n - first_of l.depth) * leaves_of (l.height - l.depth) → leaf_at l.height l.tree v < l.least;
}
