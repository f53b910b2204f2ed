-- A dmap page: the taken ones among 8,192 blocks, and the buddy tree over their words. (JFS Layout, dmap_t.)
use Rattle.std.specs.Prelude.{◌≡◌, ℕ, ◌*◌, ◌<◌, ◌≤◌, Bool, true, not, List, [], ◌∷◌, length, replicate}
use Rattle.byteorder.specs.Endian.{little_bytes}
use Rattle.jfs_bits.specs.Field.{field_of, range_of}
use Rattle.jfs_bits.specs.Piece.{Piece}
use Rattle.jfs_bits.specs.Bits.{count_below, is_taken, max_bud_of}
use Rattle.jfs_buddy.specs.Tree.{rank_of}
use Rattle.jfs_buddy.specs.Buddy.{IsBuddyTree}

-- the number of blocks that the page has, and the first of them
abbrev pub blocks_of : List ℕ → ℕ
blocks_of page = field_of page 0 4

abbrev pub first_block_of : List ℕ → ℕ
first_block_of page = field_of page 8 8

-- the working map, and the tree over it
abbrev pub map_of : List ℕ → List ℕ
map_of page = range_of page 2048 1024

abbrev pub tree_of : List ℕ → List ℕ
tree_of page = range_of page 33 341

-- the set that a page holds: block `b` of the page is taken
abbrev pub taken_in : List ℕ → ℕ → Bool
taken_in page = is_taken (map_of page)

-- the own rank of word `w` of a map, that of its maximal buddy; a wholly free word has 6
abbrev pub word_rank : List ℕ → ℕ → ℕ
word_rank map w = rank_of (max_bud_of (field_of map (4 * w) 4))

-- the fields that do not follow from the set; for the prover alone
unfoldable pub head_of : ℕ → ℕ → List Piece
head_of start nblocks =
    record { at = 0; bytes = little_bytes 4 nblocks } ∷
    record { at = 8; bytes = little_bytes 8 start } ∷
    record { at = 16; bytes = little_bytes 4 256 } ∷
    record { at = 20; bytes = little_bytes 4 8 } ∷
    record { at = 24; bytes = little_bytes 4 85 } ∷
    record { at = 28; bytes = little_bytes 4 4 } ∷
    record { at = 32; bytes = little_bytes 1 5 } ∷ []

-- the page in its canonical form: all that it has follows from its set, its first block and its number of blocks
pub record IsDmap (page : List ℕ) : Type 0 where
  pub size : length page ≡ 4096
  pub most : blocks_of page ≤ 8192
  -- blocks past the page's number are taken
  pub past : (b : ℕ) → blocks_of page ≤ b → b < 8192 → taken_in page b ≡ true
  -- the persistent map is the working map
  pub same : (b : ℕ) → is_taken (range_of page 3072 1024) b ≡ taken_in page b
  pub free : field_of page 4 4 ≡ count_below 8192 (λ b. not (taken_in page b))
  -- 256 leaves, the 2 ^ 8 of them from node 85 on, at height 4; a wholly free leaf has the value 5
  pub leaves : field_of page 16 4 ≡ 256
  pub l2_leaves : field_of page 20 4 ≡ 8
  pub first_leaf : field_of page 24 4 ≡ 85
  pub height : field_of page 28 4 ≡ 4
  pub whole : field_of page 32 1 ≡ 5
  pub tree : IsBuddyTree 4 6 (word_rank (map_of page)) (tree_of page)
  pub pad : range_of page 374 1674 ≡ replicate 1674 0
