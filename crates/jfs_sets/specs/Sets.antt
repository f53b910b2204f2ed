-- The sets of a volume, as bits in words as in the maps.
use Rattle.std.specs.Prelude.{◌≡◌, ◌<◌, ◌≤◌, ◌+◌, ◌*◌, ◌/◌, ◌%◌, ◌&&◌, ℕ, List, length, map, is_some, Option, Some, None}
use Rattle.jfs_bits.specs.Bits.{is_taken}
use Rattle.jfs_bits.specs.Field.{range_of}
use Rattle.jfs_bits.specs.declared.descriptor.Pxd.{Pxd}
use Rattle.jfs_super.specs.declared.fields.Super.{Super}
use Rattle.jfs_disk.specs.Image.{Image, page_of}
use Rattle.jfs_mount.specs.objects.specs.Volume.{home}
use Rattle.jfs_mount.specs.objects.specs.Image.{iag_page}
use Rattle.jfs_mount.specs.Subject.{Subject, subject_of, volume}
use Rattle.jfs_mount.specs.Steps.{AreRead}
use Rattle.jfs_mount.specs.declared.maps.Maps.{Maps}

-- a bit for each block of the file system part: set where the block's bit in the persistent map is
abbrev pub AreUsedBlocks : Image → Maps → List ℕ → Type 0
AreUsedBlocks image maps set = (s : Super) → AreRead (subject_of s (page_of image)) maps → (b : ℕ) → b < maps.blocks → is_taken set b ≡ (volume (subject_of s (page_of image))).used b

-- The bit of each inode that there is a place for, as the persistent map of its IAG has it. An inode is in use where its extent is there and its bit is set.
pub record HasInodeBits (s : Subject) (iags : ℕ) (set : List ℕ) : Type 0 where
  pub bit : (n : ℕ) → n < 4096 * iags → is_taken set n ≡ is_taken (range_of (iag_page s.readers s.page (n / 4096)) 2560 512) (n % 4096)
  pub in_use : (n : ℕ) → n < 4096 * iags → (volume s).in_use n ≡ (is_some (home (volume s).extents n) && is_taken set n)

abbrev pub AreUsedInodes : Image → Maps → List ℕ → Type 0
AreUsedInodes image maps set = (s : Super) → AreRead (subject_of s (page_of image)) maps → HasInodeBits (subject_of s (page_of image)) maps.inodes.iags set

-- inode extents: four blocks from the first one on, or a descriptor of zeros where none is there
abbrev pub extent_from : Option ℕ → Pxd
extent_from None = record { len = 0; addr = 0 }
extent_from (Some first) = record { len = 4; addr = first }
