use Rattle.std.proofs.Common.{◌≡◌, ◌<◌, ℕ, length}
use Rattle.std.specs.Prelude.{◌==◌, if◌then◌else◌}
use Rattle.jfs_buddy.specs.Tree.{rank_at, leaf_at, HasMaxima}
use Rattle.jfs_buddy.proofs.Ranks.{HadMaxima}
use Rattle.jfs_buddy.proofs.tree.put_leaf.Given as goal

abbrev pub invariant-loop-n : goal.invariant-loop-n
invariant-loop-n l = record {
  within : l.n < length l.tree;
  changed : rank_at l.tree l.n ≡ l.now;
  leaves : (v : ℕ) → leaf_at l.height l.tree v ≡ (if l.leaf == v then l.rank else leaf_at l.height l.fn.tree v);
  inner : HasMaxima l.fn.tree → HadMaxima (length l.fn.tree) (rank_at l.tree) l.n l.before;
}

abbrev pub decreases-loop-n : goal.decreases-loop-n
decreases-loop-n l = l.n
