use Rattle.std.proofs.Common.{◌≡◌, ◌-◌, ◌*◌, ◌<◌, ℕ}
use Rattle.jfs_buddy.specs.Tree.{leaves_of, leaf_at, HasMaxima}
use Rattle.jfs_buddy.specs.Buddy.{joined, with_own, Level, IsBuddyTree}
use Rattle.jfs_buddy.proofs.Changes.{Course}
use Rattle.jfs_buddy.proofs.join.split.Given as goal

abbrev pub invariant-loop-below : goal.invariant-loop-below
invariant-loop-below l = (own : ℕ → ℕ) → own l.leaf ≡ l.whole → l.rank < l.whole → Level own l.whole (2 * l.height) l.leaf l.level → IsBuddyTree l.height l.whole own l.fn.tree → record {
  inner : HasMaxima l.tree;
  course : Course (leaves_of l.height) l.whole l.leaf (l.level - l.below) (joined (with_own own l.leaf l.rank) l.whole (2 * l.height)) (leaf_at l.height l.tree);
}
