-- Groups of blocks that all have two owners are passed over.
use Rattle.std.specs.Prelude.{◌≡◌, ◌<◌, ◌≤◌, ℕ, ◌*◌, true, List, length, get_or}
use Rattle.jfs_bits.specs.Bits.{is_taken}

-- each block from one group of 1,024 to before another has two owners
abbrev pub AreShared : List ℕ → ℕ → ℕ → Type 0
AreShared shared from to = (b : ℕ) → 1024 * from ≤ b → b < 1024 * to → is_taken shared b ≡ true

-- For each group another one, or the end.
abbrev pub AreGroups : List ℕ → Type 0
AreGroups later = (g : ℕ) → g < length later → get_or later g 0 ≤ length later

-- All blocks from a group to before its other one have two owners. One that isn't behind it passes over none.
abbrev pub PassesShared : List ℕ → List ℕ → Type 0
PassesShared shared later = (g : ℕ) → g < length later → AreShared shared g (get_or later g 0)

-- so many blocks in groups, some of which are passed over
pub record PassesOver (blocks : ℕ) (shared later : List ℕ) : Type 0 where
  pub all : blocks ≤ 1024 * length later
  pub few : length later < 4294967296
  pub ends : AreGroups later
  pub passes : PassesShared shared later
