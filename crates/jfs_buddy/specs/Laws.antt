-- What makes a tree a function of its leaves.
use Rattle.std.specs.Prelude.{◌≡◌, ℕ, List}
pub use Rattle.jfs_bits.specs.Field.{AreBytes}
use Rattle.jfs_buddy.specs.Buddy.{IsBuddyTree}

-- two trees over the same own ranks hold the same bytes
abbrev pub TreesAgree : Type 0
TreesAgree = (height whole : ℕ) (own : ℕ → ℕ) (one other : List ℕ) → AreBytes one → AreBytes other → IsBuddyTree height whole own one → IsBuddyTree height whole own other → one ≡ other
