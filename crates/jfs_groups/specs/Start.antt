-- What is known of the log's part by what both values were made from.
use Rattle.std.specs.Prelude.{◌≡◌, ◌⊎◌, ℕ, List}
use Rattle.jfs_bits.specs.Count.{Rose}

-- How many pages the log's ring has, and its part, and how often a call of that part had failed; and the page of its superblock.
pub record LogStart : Type 0 where
  pub ring : ℕ
  pub pages : ℕ
  pub faults : ℕ
  pub super : List ℕ

-- a count of faults is as it was, or rose
abbrev pub Grows : ℕ → ℕ → Type 0
Grows before now = (now ≡ before) ⊎ Rose before now
