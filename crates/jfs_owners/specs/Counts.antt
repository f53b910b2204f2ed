-- How often blocks were counted, told by two bits a block.
use Rattle.std.specs.Prelude.{◌≡◌, ◌<◌, ◌≤◌, ℕ, ◌+◌, ◌*◌, ◌%◌, ◌==◌, nat_lt, true, List, length, if◌then◌else◌}
use Rattle.jfs_bits.specs.Bits.{is_taken}
use Rattle.jfs_tree.specs.Spells.{no_page}

-- for each of so many blocks a bit whether it has an owner, and one whether it has two or more
pub record OwnerSets : Type 0 where
  pub blocks : ℕ
  pub owned : List ℕ
  pub shared : List ℕ

-- Each block was counted so often, as far as the bits tell it: not at all, once, or more often.
pub record Counts (o : OwnerSets) (count : ℕ → ℕ) : Type 0 where
  pub owned : (b : ℕ) → b < o.blocks → is_taken o.owned b ≡ nat_lt 0 (count b)
  pub shared : (b : ℕ) → b < o.blocks → is_taken o.shared b ≡ nat_lt 1 (count b)

-- each block was counted so often more
pub record Adds (more : ℕ → ℕ) (old new : OwnerSets) : Type 0 where
  pub blocks : new.blocks ≡ old.blocks
  pub counts : (count : ℕ → ℕ) → Counts old count → Counts new (λ b. more b + count b)

-- how often a page that a walk meets counts for a block: once for its own, but for the root, which is none
abbrev pub page_has : ℕ → ℕ → ℕ
page_has n b = if b == no_page then 0 else (if n == b then 1 else 0)

-- ---- for the prover alone

-- whole words, with a bit for each block
pub record AreSized (blocks : ℕ) (owned shared : List ℕ) : Type 0 where
  pub words : length owned % 4 ≡ 0
  pub all : blocks ≤ 8 * length owned
  pub same : length shared ≡ length owned
  -- a block with two owners has one
  pub nested : (b : ℕ) → is_taken shared b ≡ true → is_taken owned b ≡ true
