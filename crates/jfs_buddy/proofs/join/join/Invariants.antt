use Rattle.std.proofs.Common.{◌≡◌, ◌≢◌, ◌*◌, ◌<◌, ℕ, true}
use Rattle.jfs_buddy.specs.Tree.{leaves_of, leaf_at, HasMaxima}
use Rattle.jfs_buddy.specs.Buddy.{is_whole, joined, with_own, IsBuddyTree}
use Rattle.jfs_buddy.proofs.Changes.{Course}
use Rattle.jfs_buddy.proofs.join.join.Given as goal

abbrev pub invariant-loop-k : goal.invariant-loop-k
invariant-loop-k l = (own : ℕ → ℕ) → 0 < l.whole → own l.leaf ≢ l.whole → IsBuddyTree l.height l.whole own l.fn.tree → record {
  inner : HasMaxima l.tree;
  course : Course (leaves_of l.height) l.whole l.leaf l.k (joined own l.whole (2 * l.height)) (leaf_at l.height l.tree);
  run : is_whole (with_own own l.leaf l.whole) l.whole l.k l.leaf ≡ true;
}
