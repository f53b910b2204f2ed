-- The inode map as it was read. (JFS Layout: the map's file is inode 16 of the aggregate; its first page has the number of inode allocation groups (IAGs) at byte 4,
-- then each IAG has a page, with places for 128 inode extents and a bit for each of their 4,096 inodes.)
use Rattle.std.specs.Prelude.{◌≡◌, ◌/◌, ℕ, suc, Bool, false, List, Option, Some, None}
use Rattle.jfs_bits.specs.Field.{field_of}
use Rattle.jfs_bits.specs.Descriptor.{pxd_of}
use Rattle.jfs_bits.specs.Bits.{is_taken}
use Rattle.jfs_meaning.specs.objects.specs.Readers.{Readers}
use Rattle.jfs_meaning.specs.objects.specs.Contents.{block_of}
use Rattle.jfs_meaning.specs.objects.specs.Image.{file_extents, iags_on, extent_place}
use Rattle.jfs_reader.specs.declared.map.InodeMap.{InodeMap}

-- the extents of the map's file, and how many IAGs there are
pub record IsInodeMap (r : Readers) (page : ℕ → List ℕ) (map : InodeMap) : Type 0 where
  pub extents : file_extents r page 16 ≡ map.extents
  pub iags : iags_on r page ≡ map.iags

-- the block of the page of the IAG that has an inode
abbrev pub iag_block : InodeMap → ℕ → Option ℕ
iag_block map n = block_of map.extents (suc (n / 4096))

-- ---- what a part of a page holds, where a part that isn't there has nothing

abbrev pub number_in : Option (List ℕ) → ℕ
number_in None = 0
number_in (Some part) = field_of part 0 4

abbrev pub place_in : Option (List ℕ) → Option ℕ
place_in None = None
place_in (Some part) = extent_place (pxd_of part 0)

abbrev pub bit_in : Option (List ℕ) → ℕ → Bool
bit_in None i = false
bit_in (Some part) i = is_taken part i
