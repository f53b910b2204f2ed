-- A new volume, page by page.
use Rattle.std.specs.Prelude.{◌≡◌, ◌⊎◌, ℕ, ◌+◌, ◌-◌, ◌*◌, ◌<◌, ◌≤◌, List, ◌∷◌, map, drop, replicate}
use Rattle.std.specs.List.{range_with_len}
use Rattle.jfs_bits.specs.declared.descriptor.Pxd.{Pxd}
use Rattle.jfs_bits.specs.declared.descriptor.Moment.{Moment}
use Rattle.jfs_disk.specs.Image.{Image, page_of}
use Rattle.jfs_disk.specs.Crash.{torn}
use Rattle.jfs_iag.specs.Iag.{no_run}
use Rattle.jfs_imap.specs.Inodes.{Inodes, IsInodePage}
use Rattle.jfs_bmap.specs.MapFile.{IsMapPage}
use Rattle.jfs_logpages.specs.Fresh.{IsFreshLog, IsOutside}
use Rattle.jfs_format.specs.declared.layout.Layout.{Layout}
use Rattle.jfs_format.specs.declared.volume.NewVolume.{NewVolume}
use Rattle.jfs_format.specs.declared.tables.Table.{Table}
use Rattle.jfs_format.specs.declared.tables.Table.TheVariants.{Aggregate, Fileset}
use Rattle.jfs_format.specs.Layout.{layout_of, map_pages, second_table, second_map, inode_map, first_inodes, owned_blocks, is_taken_block}
use Rattle.jfs_format.specs.Inodes.{aggregate_inode, fileset_inode, in_use, IsTablePage}
use Rattle.jfs_format.specs.Superblock.{label_field, super_page}

-- what `format` is asked for, on a disk of so many pages
abbrev pub wanted : ℕ → List ℕ → List ℕ → Moment → NewVolume
wanted pages uuid label now = record { layout = layout_of pages; uuid = uuid; label = label_field label; moment = now }

-- ---- inode maps

-- where a table's inodes stand: the first extent of its inode map; the others aren't there
abbrev pub extent_of : Table → Layout → Pxd
extent_of Aggregate l = record { len = 4; addr = 11 }
extent_of Fileset l = record { len = 4; addr = first_inodes l }

-- how many inode allocation groups a table has
abbrev pub iags_of : Table → Layout → ℕ
iags_of Aggregate l = 1
iags_of Fileset l = l.iags

-- the inodes in use, and the inode extents
abbrev pub inodes_in : Table → Layout → Inodes
inodes_in table l = record {
  taken = map (in_use table) (range_with_len 0 (4096 * iags_of table l));
  extents = extent_of table l ∷ replicate (128 * iags_of table l - 1) no_run;
  iags = iags_of table l;
  agsize = l.agsize;
  numag = l.groups;
}

-- ---- the volume

-- each of `count` pages from `first` on is as its number among them says
abbrev pub HasPages : ℕ → ℕ → (ℕ → List ℕ → Type 0) → Image → Type 0
HasPages first count Is image = (k : ℕ) → k < count → Is k (page_of image (first + k))

-- all of a new volume but its superblock
pub record IsAllButSuper (v : NewVolume) (image : Image) : Type 0 where
  pub aggregate_map : HasPages 9 2 (IsInodePage (inodes_in Aggregate v.layout)) image
  pub aggregate_inodes : HasPages 11 4 (IsTablePage (aggregate_inode v)) image
  pub second_super : page_of image 15 ≡ super_page v
  pub block_map : HasPages 16 (map_pages v.layout) (IsMapPage v.layout.blocks v.layout.agsize (is_taken_block v.layout)) image
  -- the copies of pages 11 to 14, and of 9 and 10
  pub second_inodes : HasPages (second_table v.layout) 4 (IsTablePage (aggregate_inode v)) image
  pub second_map : HasPages (second_map v.layout) 2 (IsInodePage (inodes_in Aggregate v.layout)) image
  pub inode_map : HasPages (inode_map v.layout) (1 + v.layout.iags) (IsInodePage (inodes_in Fileset v.layout)) image
  pub inodes : HasPages (first_inodes v.layout) 4 (IsTablePage (fileset_inode v)) image
  pub log : IsFreshLog v.layout.log.len v.uuid (drop v.layout.log.addr image)

pub record IsNewVolume (v : NewVolume) (image : Image) : Type 0 where
  pub super_block : page_of image 8 ≡ super_page v
  pub rest : IsAllButSuper v image

-- A page that isn't named above: it stays as it was. They are pages 0 to 7, the free blocks, the work space, and the log's first page.
abbrev pub IsUnnamed : Layout → ℕ → Type 0
IsUnnamed l n = (n < 8) ⊎ ((owned_blocks l ≤ n) × (IsOutside (l.log.addr + 1) (l.log.len - 1) n))

-- What a crash may leave on the way from an old image: page 8 is as it was, or all else is the new volume's and page 8 is torn. Pages
-- that aren't named are as they were.
pub record IsOnTheWay (v : NewVolume) (old left : Image) : Type 0 where
  pub page : (page_of left 8 ≡ page_of old 8) ⊎ ((sectors : ℕ) × (sectors ≤ 8) × (page_of left 8 ≡ torn sectors (super_page v) (page_of old 8)) × IsAllButSuper v left)
  pub unnamed : (n : ℕ) → IsUnnamed v.layout n → page_of left n ≡ page_of old n
