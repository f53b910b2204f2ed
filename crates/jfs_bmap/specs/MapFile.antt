-- The file of the block map: its control page, the control pages of levels 2, 1 and 0, then the dmaps. (JFS Layout, block map.)
-- In all of this file `taken` is true of each block past the volume's end, since the pages have these set.
use Rattle.std.specs.Prelude.{◌≡◌, ℕ, zero, suc, ◌+◌, ◌-◌, ◌*◌, ◌/◌, ◌%◌, ◌^◌, ◌<◌, ◌≤◌, nat_le, nat_lt, Bool, true, false, not, ◌&&◌, ◌||◌, ◌==◌, if◌then◌else◌, List, length, replicate, slice_index}
use Rattle.std.specs.Int.{IsPowerOfTwo}
use Rattle.jfs_bits.specs.Field.{range_of}
use Rattle.jfs_dmap.specs.Dmap.{taken_in}
use Rattle.jfs_bits.specs.Bits.{greatest_run, count_below}
use Rattle.jfs_buddy.specs.Tree.{first_of}
use Rattle.jfs_dmapctl.specs.Control.{IsControl}
use Rattle.jfs_dmapctl.specs.MapControl.{IsMapControl}
use Rattle.jfs_dmapctl.specs.declared.map_control.MapControl.{MapControl}
use Rattle.jfs_bmap.specs.Pages.{dmaps_of, IsDmapOf, leaf_ranks}

-- allocation groups: at most 128, each of a power of two of at least 8,192 blocks
pub record AreGroups (blocks agsize : ℕ) : Type 0 where
  pub some : 0 < blocks
  pub least : 8192 ≤ agsize
  pub power : IsPowerOfTwo agsize
  pub most : blocks ≤ 128 * agsize

-- where a group stands on a control page: on which level, how far above the leaves its nodes stand, how many it has, and the
-- first node of that height
pub record IsGroupShape (m : MapControl) : Type 0 where
  -- the lowest level on which one control page covers a whole group: 2 ^ 23 blocks on level 0, 2 ^ 33 on level 1
  pub level : m.aglevel ≡ (if nat_le m.agl2size 23 then 0 else 1)
  -- with v = agl2size - 13 - 10 * aglevel, a group has 2 ^ v leaves there: so many levels of four, and a rest of 1 or 2
  pub height : m.agheight ≡ (m.agl2size - 13 - 10 * m.aglevel) / 2
  pub width : m.agwidth ≡ 2 ^ ((m.agl2size - 13 - 10 * m.aglevel) % 2)
  pub start : m.agstart ≡ first_of (5 - m.agheight)

-- the numbers of the canonical control page, for a volume of so many blocks in groups of `agsize`, of which the taken ones are set
pub record IsMapControlOf (blocks agsize : ℕ) (taken : ℕ → Bool) (m : MapControl) : Type 0 where
  pub mapsize : m.mapsize ≡ blocks
  pub nfree : m.nfree ≡ count_below blocks (λ b. not (taken b))
  -- a page has 2 ^ 0 blocks
  pub l2nbperpage : m.l2nbperpage ≡ 0
  -- the number of groups, the last one perhaps in part, and the greatest group's number
  pub numag : m.numag ≡ (blocks + agsize - 1) / agsize
  pub maxag : m.maxag ≡ m.numag - 1
  -- the highest level of control pages in use
  pub maxlevel : m.maxlevel ≡ 0
  pub agpref : m.agpref ≡ 0
  pub shape : IsGroupShape m
  pub agl2size : agsize ≡ 2 ^ m.agl2size
  pub group_size : m.agsize ≡ agsize
  -- the free blocks of each group
  pub agfree : (k : ℕ) → k < 128 → slice_index m.agfree k ≡ count_below agsize (λ i. not (taken (agsize * k + i)))
  -- the l2 of the greatest free aligned run, -1 where no block is free: the value at the root of level 0
  pub maxfreebud : m.maxfreebud ≡ greatest_run taken 23 23

-- the map's control page in its canonical form: its numbers, and zeros behind them
pub record IsFirstPage (blocks agsize : ℕ) (taken : ℕ → Bool) (page : List ℕ) : Type 0 where
  pub size : length page ≡ 4096
  pub numbers : MapControl
  pub held : IsMapControl numbers page
  pub canonical : IsMapControlOf blocks agsize taken numbers
  pub pad : range_of page 1089 3007 ≡ replicate 3007 0

-- dmap `k`, with the bit set of each of its blocks that is taken
pub record IsDmapPage (blocks : ℕ) (taken : ℕ → Bool) (k : ℕ) (page : List ℕ) : Type 0 where
  pub dmap : IsDmapOf blocks k page
  pub set : (i : ℕ) → 8192 * k + i < blocks → i < 8192 → taken_in page i ≡ taken (8192 * k + i)

-- Page `n` of the file in its canonical form, for a volume of so many blocks in groups of `agsize`, with the taken blocks set.
-- Levels 2 and 1 are not in use: no leaf has a page below it.
abbrev pub IsMapPage : ℕ → ℕ → (ℕ → Bool) → ℕ → List ℕ → Type 0
IsMapPage blocks agsize taken zero page = IsFirstPage blocks agsize taken page
IsMapPage blocks agsize taken (suc zero) page = IsControl 2 (λ v. 0) page
IsMapPage blocks agsize taken (suc (suc zero)) page = IsControl 1 (λ v. 0) page
IsMapPage blocks agsize taken (suc (suc (suc zero))) page = IsControl 0 (leaf_ranks taken) page
IsMapPage blocks agsize taken (suc (suc (suc (suc k)))) page = IsDmapPage blocks taken k page

-- How many pages the file has: the control page of the map, those of levels 2, 1 and 0, and the dmaps.
abbrev pub pages_of : ℕ → ℕ
pages_of blocks = 4 + dmaps_of blocks

-- Page `n` is in use. The pages of levels 2 and 1 aren't, which stand above the highest level in use.
abbrev pub is_in_use : ℕ → ℕ → Bool
is_in_use blocks n = n == 0 || (nat_le 3 n && nat_lt n (pages_of blocks))

-- Page `n` tells of block `b`: the dmap that has the block, and the pages above it.
abbrev pub tells_of : ℕ → ℕ → Bool
tells_of zero b = true
tells_of (suc zero) b = false
tells_of (suc (suc zero)) b = false
tells_of (suc (suc (suc zero))) b = true
tells_of (suc (suc (suc (suc k)))) b = b / 8192 == k
