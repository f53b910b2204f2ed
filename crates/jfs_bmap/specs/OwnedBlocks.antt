-- The blocks of a volume that have owners.
use Rattle.std.specs.Prelude.{ℕ, Bool, List}
use Rattle.jfs_bits.specs.Bits.{is_taken}
use Rattle.jfs_bmap.specs.Set.{each_below}

-- for each block whether it has one, and the size of an allocation group
pub record OwnedBlocks : Type 0 where
  pub owned : List Bool
  pub agsize : ℕ

-- those that a bit map has set, of a volume of so many blocks in groups of `agsize`
abbrev pub owned_of : List ℕ → ℕ → ℕ → OwnedBlocks
owned_of set blocks agsize = record { owned = each_below blocks (is_taken set); agsize = agsize }
