-- Where the maps and the fixed areas of a volume stand, as its superblock and the aggregate's inodes said when it was mounted: they stay for as long as it is.
use Rattle.std.specs.Prelude.{◌≡◌, ◌<◌, ◌≤◌, ℕ, suc, Bool, true, not, ◌&&◌, ◌||◌, ◌==◌, nat_lt}
use Rattle.jfs_bits.specs.Bits.{any_below}
use Rattle.jfs_steps.specs.bmap.specs.MapFile.{pages_of, is_in_use}

pub record Places : Type 0 where
  -- how many blocks the file system part has, in groups of how many
  pub blocks : ℕ
  pub agsize : ℕ
  -- how many inode allocation groups (IAGs) there are, spread over how many allocation groups
  pub iags : ℕ
  pub numag : ℕ
  -- the block of each page of the block map's file, and of the inode map's
  pub block_map : ℕ → ℕ
  pub inode_map : ℕ → ℕ
  -- how often the fixed areas have a block
  pub area : ℕ → ℕ

-- a page of the block map's file that is in use; the inode map's file has a control page, and then one page for each IAG
abbrev pub is_block_page : Places → ℕ → Bool
is_block_page pl p = any_below (pages_of pl.blocks) (λ k. is_in_use pl.blocks k && pl.block_map k == p)

abbrev pub is_inode_page : Places → ℕ → Bool
is_inode_page pl p = any_below (suc pl.iags) (λ k. pl.inode_map k == p)

abbrev pub is_map_page : Places → ℕ → Bool
is_map_page pl p = is_block_page pl p || is_inode_page pl p

-- the other blocks of the fixed areas
abbrev pub is_fixed_page : Places → ℕ → Bool
is_fixed_page pl p = nat_lt 0 (pl.area p) && not (is_map_page pl p)

-- The maps stand in the fixed areas.
pub record AreInAreas (pl : Places) : Type 0 where
  pub block_map : (k : ℕ) → is_in_use pl.blocks k ≡ true → 0 < pl.area (pl.block_map k)
  pub inode_map : (k : ℕ) → k ≤ pl.iags → 0 < pl.area (pl.inode_map k)
