-- Where the parts of a new volume stand. (JFS Layout; the sizes of the parts are this project's.)
use Rattle.std.specs.Prelude.{◌≡◌, ◌≤◌, ◌<◌, ℕ, ◌+◌, ◌-◌, ◌*◌, ◌/◌, ◌^◌, min, max, nat_le, nat_lt, Bool, ◌||◌, if◌then◌else◌}
use Rattle.jfs_bmap.specs.MapFile.{AreGroups}
use Rattle.jfs_format.specs.declared.layout.Layout.{Layout}

-- a disk of so many pages has room for a volume, and isn't too long for one
pub record IsFormattable (pages : ℕ) : Type 0 where
  pub least : 4096 ≤ pages
  pub most : pages ≤ 8388608

-- The log stands at the end: a page of 256, but at least 1,024 and at most 32,768.
abbrev pub log_pages : ℕ → ℕ
log_pages pages = max 1024 (min (pages / 256) 32768)

-- The checker's work space stands before it: 64 pages, and 64 more for each whole 2 ^ 20 pages.
abbrev pub work_pages : ℕ → ℕ
work_pages pages = 64 + 64 * (pages / 2 ^ 20)

-- The file system part has the pages before these.
abbrev pub blocks_for : ℕ → ℕ
blocks_for pages = pages - log_pages pages - work_pages pages

-- The blocks of an allocation group: 2 ^ 13, and from 2 ^ 20 blocks on a 128th of the least power of two that isn't below their number, which is at most 2 ^ 23.
abbrev pub group_size : ℕ → ℕ
group_size blocks = if nat_le blocks (2 ^ 20) then 2 ^ 13 else (if nat_le blocks (2 ^ 21) then 2 ^ 14 else (if nat_le blocks (2 ^ 22) then 2 ^ 15 else 2 ^ 16))

-- a dmap for each 8,192 blocks
abbrev pub dmaps_for : ℕ → ℕ
dmaps_for blocks = (blocks + 8191) / 8192

abbrev pub layout_for : ℕ → ℕ → Layout
layout_for pages blocks = record {
  blocks = blocks;
  agsize = group_size blocks;
  groups = (blocks + group_size blocks - 1) / group_size blocks;
  dmaps = dmaps_for blocks;
  -- an inode allocation group for each dmap, at most 128
  iags = min (dmaps_for blocks) 128;
  work = record { len = work_pages pages; addr = blocks };
  log = record { len = log_pages pages; addr = pages - log_pages pages };
}

-- the layout of a new volume on a disk of so many pages
unfoldable pub layout_of : ℕ → Layout
layout_of pages = layout_for pages (blocks_for pages)

-- ---- the places, from page 16 on one behind the other

-- the block map's file: four control pages and the dmaps
abbrev pub map_pages : Layout → ℕ
map_pages l = 4 + l.dmaps

-- the copy of the aggregate inode table, of 4 pages, and that of the aggregate inode map, of 2
abbrev pub second_table : Layout → ℕ
second_table l = 20 + l.dmaps

abbrev pub second_map : Layout → ℕ
second_map l = 24 + l.dmaps

-- the fileset's inode map: its control page, and a page for each inode allocation group
abbrev pub inode_map : Layout → ℕ
inode_map l = 26 + l.dmaps

-- the fileset's first inode extent, of 4 pages
abbrev pub first_inodes : Layout → ℕ
first_inodes l = 27 + l.dmaps + l.iags

-- the blocks up to there have owners, and no others
abbrev pub owned_blocks : Layout → ℕ
owned_blocks l = 31 + l.dmaps + l.iags

-- the set of the block map; blocks past the end count as taken
abbrev pub is_taken_block : Layout → ℕ → Bool
is_taken_block l b = nat_lt b (owned_blocks l) || nat_le l.blocks b

abbrev pub free_blocks : Layout → ℕ
free_blocks l = l.blocks - owned_blocks l

-- ---- what follows of its numbers

pub record IsLayout (pages : ℕ) (l : Layout) : Type 0 where
  pub least : 64 ≤ l.blocks
  pub most : l.blocks ≤ 2 ^ 23
  pub sizes : AreGroups l.blocks l.agsize
  pub few : l.agsize ≤ 2 ^ 16
  pub groups : l.groups ≡ (l.blocks + l.agsize - 1) / l.agsize
  pub some_groups : 0 < l.groups
  pub most_groups : l.groups ≤ 128
  pub dmaps : l.dmaps ≡ dmaps_for l.blocks
  pub some_dmaps : 0 < l.dmaps
  pub most_dmaps : l.dmaps ≤ 1024
  pub iags : l.iags ≡ min l.dmaps 128
  -- each group has an inode allocation group, and at most two
  pub each_group : l.groups ≤ l.iags
  pub two_each : l.iags ≤ 2 * l.groups
  -- what has owners lies within the first dmap and within the file system part, behind which the work space and the log stand
  pub owned : owned_blocks l ≤ 8192
  pub within : owned_blocks l < l.blocks
  pub work : l.work.addr ≡ l.blocks
  pub work_size : l.work.len < 2 ^ 24
  pub behind : l.work.addr + l.work.len ≡ l.log.addr
  pub shortest : 256 ≤ l.log.len
  pub longest : l.log.len ≤ 32768
  pub end : l.log.addr + l.log.len ≡ pages
  pub count : pages ≤ 8388608
