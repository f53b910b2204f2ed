-- The bytes of each page of the block map's file, by the set of blocks in use. (JFS Layout, block map.)
use Rattle.std.specs.Prelude.{ℕ, zero, suc, ◌+◌, ◌-◌, ◌*◌, ◌/◌, ◌%◌, ◌^◌, min, nat_le, nat_lt, Bool, not, ◌||◌, if◌then◌else◌, List, [], ◌∷◌, slice_index, map}
use Rattle.std.specs.Int.{cast_unsigned, w8}
use Rattle.std.specs.List.{range_with_len}
use Rattle.byteorder.specs.Endian.{little_bytes}
use Rattle.jfs_bits.specs.Bits.{count_below, greatest_run}
use Rattle.jfs_bits.specs.Piece.{Piece, piece, puts}
use Rattle.jfs_buddy.specs.Tree.{first_of}
use Rattle.jfs_bmap.specs.dmap.specs.Dmap.{word_rank, head_of as dmap_head}
use Rattle.jfs_bmap.specs.dmapctl.specs.Control.{whole_of, head_of as control_head}
use Rattle.jfs_bmap.specs.dmapctl.specs.MapControl.{front_of}
use Rattle.jfs_bmap.specs.dmapctl.specs.declared.map_control.MapControl.{MapControl}
use Rattle.jfs_bmap.specs.Pages.{leaf_ranks}
use Rattle.jfs_map_bytes.specs.Parts.{joined_below, set_bytes, zeros}
use Rattle.jfs_map_bytes.specs.Tree.{tree_bytes}

-- ---- dmaps

-- dmap `k` says of its block `i` that it is taken; one that the volume doesn't have is
abbrev pub on_dmap : ℕ → (ℕ → Bool) → ℕ → ℕ → Bool
on_dmap blocks taken k i = not (nat_lt (8192 * k + i) blocks) || taken (8192 * k + i)

-- the count of its free blocks, the tree, and both maps, by the map's bytes
unfoldable pub dmap_parts : (ℕ → Bool) → List ℕ → List Piece
dmap_parts taken set =
    piece 4 (little_bytes 4 (count_below 8192 (λ i. not (taken i)))) ∷
    piece 33 (tree_bytes 4 6 (word_rank set)) ∷
    piece 2048 set ∷
    piece 3072 set ∷ []

unfoldable pub dmap_bytes : ℕ → (ℕ → Bool) → ℕ → List ℕ
dmap_bytes blocks taken k = puts (dmap_parts (on_dmap blocks taken k) (set_bytes 256 (on_dmap blocks taken k))) (puts (dmap_head (8192 * k) (min 8192 (blocks - 8192 * k))) zeros)

-- ---- control pages of a level

unfoldable pub control_parts : ℕ → (ℕ → ℕ) → List Piece
control_parts level own = piece 17 (tree_bytes 5 (whole_of level + 1) own) ∷ []

unfoldable pub control_bytes : ℕ → (ℕ → ℕ) → List ℕ
control_bytes level own = puts (control_parts level own) (puts (control_head level) zeros)

-- ---- the map's control page

-- k of 2 ^ k
unfoldable pub l2_of : ℕ → ℕ
l2_of n = count_below n (λ k. nat_lt (2 ^ k) n)

-- the level on which a group has its nodes, and how far above the leaves these stand
abbrev pub level_of : ℕ → ℕ
level_of agsize = if nat_le (l2_of agsize) 23 then 0 else 1

abbrev pub height_of : ℕ → ℕ
height_of agsize = (l2_of agsize - 13 - 10 * level_of agsize) / 2

-- its numbers, for a volume of so many blocks in groups of `agsize`
unfoldable pub numbers_of : ℕ → ℕ → (ℕ → Bool) → MapControl
numbers_of blocks agsize taken = record {
  mapsize = blocks;
  nfree = count_below blocks (λ b. not (taken b));
  l2nbperpage = 0;
  numag = (blocks + agsize - 1) / agsize;
  maxlevel = 0;
  maxag = (blocks + agsize - 1) / agsize - 1;
  agpref = 0;
  aglevel = level_of agsize;
  agheight = height_of agsize;
  agwidth = 2 ^ ((l2_of agsize - 13 - 10 * level_of agsize) % 2);
  agstart = first_of (5 - height_of agsize);
  agl2size = l2_of agsize;
  agfree = map (λ k. count_below agsize (λ i. not (taken (agsize * k + i)))) (range_with_len 0 128);
  agsize = agsize;
  maxfreebud = greatest_run taken 23 23;
}

-- the groups' counts, and the two numbers behind them
unfoldable pub first_parts : MapControl → List Piece
first_parts m =
    piece 56 (joined_below 128 (λ k. little_bytes 8 (slice_index m.agfree k))) ∷
    piece 1080 (little_bytes 8 m.agsize) ∷
    piece 1088 (little_bytes 1 (cast_unsigned w8 m.maxfreebud)) ∷ []

unfoldable pub first_bytes : MapControl → List ℕ
first_bytes m = puts (first_parts m) (puts (front_of m) zeros)

-- ---- the file

-- page `n`: the control page, those of levels 2, 1 and 0, then the dmaps
abbrev pub block_map_bytes : ℕ → ℕ → (ℕ → Bool) → ℕ → List ℕ
block_map_bytes blocks agsize taken zero = first_bytes (numbers_of blocks agsize taken)
block_map_bytes blocks agsize taken (suc zero) = control_bytes 2 (λ v. 0)
block_map_bytes blocks agsize taken (suc (suc zero)) = control_bytes 1 (λ v. 0)
block_map_bytes blocks agsize taken (suc (suc (suc zero))) = control_bytes 0 (leaf_ranks taken)
block_map_bytes blocks agsize taken (suc (suc (suc (suc k)))) = dmap_bytes blocks taken k
