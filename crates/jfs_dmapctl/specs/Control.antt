-- A control page: the buddy tree over 1,024 dmaps, or over 1,024 control pages of the level below. (JFS Layout, dmapctl.)
use Rattle.std.specs.Prelude.{◌≡◌, ℕ, ◌+◌, ◌*◌, ◌≤◌, ℤ, pos, negsuc, List, [], ◌∷◌, length, replicate, slice_index_or}
use Rattle.std.specs.Int.{cast_signed, w8}
use Rattle.byteorder.specs.Endian.{little_bytes}
use Rattle.jfs_bits.specs.Field.{field_of, range_of}
use Rattle.jfs_bits.specs.Piece.{Piece}
use Rattle.jfs_buddy.specs.Tree.{rank_of}
use Rattle.jfs_buddy.specs.Buddy.{IsBuddyTree}

-- the value of a leaf all of whose blocks are free: 2 ^ 13 blocks under a leaf of level 0, 2 ^ 10 times as many on each next level
abbrev pub whole_of : ℕ → ℕ
whole_of level = 13 + 10 * level

abbrev pub tree_of : List ℕ → List ℕ
tree_of page = range_of page 17 1365

-- the value at the root
abbrev pub root_of : List ℕ → ℤ
root_of page = cast_signed w8 (field_of page 17 1)

-- a leaf's value on a level: -1, or the l2 of its greatest free run
abbrev pub IsValue : ℕ → ℤ → Type 0
IsValue level (pos l2) = l2 ≤ whole_of level
IsValue level (negsuc n) = n ≡ 0

-- the value of leaf `v`; a leaf that isn't in the list has -1
abbrev pub value_at : List ℤ → ℕ → ℤ
value_at values v = slice_index_or values v (negsuc 0)

-- the leaves' own ranks
abbrev pub ranks_of : List ℤ → ℕ → ℕ
ranks_of values v = rank_of (value_at values v)

-- the fields that do not follow from the leaves; for the prover alone
unfoldable pub head_of : ℕ → List Piece
head_of level =
    record { at = 0; bytes = little_bytes 4 1024 } ∷
    record { at = 4; bytes = little_bytes 4 10 } ∷
    record { at = 8; bytes = little_bytes 4 341 } ∷
    record { at = 12; bytes = little_bytes 4 5 } ∷
    record { at = 16; bytes = little_bytes 1 (whole_of level) } ∷ []

-- the page of a level in its canonical form: all that it has follows from its leaves' own ranks
pub record IsControl (level : ℕ) (own : ℕ → ℕ) (page : List ℕ) : Type 0 where
  pub size : length page ≡ 4096
  pub known : level ≤ 2
  -- 1,024 leaves, the 2 ^ 10 of them from node 341 on, at height 5
  pub leaves : field_of page 0 4 ≡ 1024
  pub l2_leaves : field_of page 4 4 ≡ 10
  pub first_leaf : field_of page 8 4 ≡ 341
  pub height : field_of page 12 4 ≡ 5
  pub whole : field_of page 16 1 ≡ whole_of level
  pub tree : IsBuddyTree 5 (whole_of level + 1) own (tree_of page)
  pub pad : range_of page 1382 2714 ≡ replicate 2714 0
