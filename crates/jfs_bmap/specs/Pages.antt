-- The pages of the block map over one set of blocks. (JFS Layout, block map: block b has its bit on dmap b / 8,192.)
use Rattle.std.specs.Prelude.{◌≡◌, ℕ, ◌+◌, ◌-◌, ◌*◌, ◌/◌, ◌%◌, ◌^◌, ◌<◌, ◌≤◌, min, nat_lt, Bool, true, not, if◌then◌else◌, List, [], length, slice_index_or}
use Rattle.jfs_disk.specs.declared.page.Page.{Page}
use Rattle.jfs_buddy.specs.Tree.{rank_of}
use Rattle.jfs_dmap.specs.Dmap.{blocks_of, first_block_of, taken_in, IsDmap}
use Rattle.jfs_bits.specs.Bits.{greatest_run, count_below}
use Rattle.jfs_dmapctl.specs.Control.{IsControl}
use Rattle.jfs_bmap.specs.Set.{each_below}

-- the bytes of page `k`
abbrev pub page_at : List Page → ℕ → List ℕ
page_at pages k = (slice_index_or pages k (record { 0 = [] })).0

-- how many dmaps a volume of so many blocks has
abbrev pub dmaps_of : ℕ → ℕ
dmaps_of blocks = (blocks + 8191) / 8192

-- the canonical dmap `k` of a volume: it has those of the 8,192 blocks from 8,192 * k on that the volume has
pub record IsDmapOf (blocks k : ℕ) (page : List ℕ) : Type 0 where
  pub canonical : IsDmap page
  pub number : blocks_of page ≡ min 8192 (blocks - 8192 * k)
  pub first : first_block_of page ≡ 8192 * k

-- the canonical dmaps of a volume
pub record AreDmaps (blocks : ℕ) (dmaps : List Page) : Type 0 where
  pub number : length dmaps ≡ dmaps_of blocks
  pub each : (k : ℕ) → k < dmaps_of blocks → IsDmapOf blocks k (page_at dmaps k)

-- block `b` is taken on its dmap; blocks past the end count as taken
unfoldable pub taken_on : ℕ → List Page → ℕ → Bool
taken_on blocks dmaps b = if nat_lt b blocks then taken_in (page_at dmaps (b / 8192)) (b % 8192) else true

-- the set that the dmaps hold
abbrev pub set_of : ℕ → List Page → List Bool
set_of blocks dmaps = each_below blocks (taken_on blocks dmaps)

-- a leaf of the control page has the rank of the greatest free run of its dmap; one without a dmap has rank 0, the value -1
unfoldable pub leaf_ranks : (ℕ → Bool) → ℕ → ℕ
leaf_ranks taken k = rank_of (greatest_run (λ i. taken (8192 * k + i)) 13 13)

-- the pages over one set: its dmaps, the control page of level 0 over them, and the number of free blocks
pub record AreMapPages (blocks free : ℕ) (dmaps : List Page) (control : List ℕ) : Type 0 where
  pub most : blocks ≤ 2 ^ 23
  pub pages : AreDmaps blocks dmaps
  pub ranks : IsControl 0 (leaf_ranks (taken_on blocks dmaps)) control
  pub count : free ≡ count_below blocks (λ b. not (taken_on blocks dmaps b))
