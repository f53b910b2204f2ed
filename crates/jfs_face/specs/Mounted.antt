-- The places that an image gives: inode 2 of the aggregate is the block map's file, inode 16 the inode map's. (JFS Layout.)
use Rattle.std.specs.Prelude.{◌≡◌, ◌≤◌, ℕ, true, List, is_some, unwrap_or}
use Rattle.jfs_bits.specs.declared.descriptor.Pxd.{Pxd}
use Rattle.jfs_steps.specs.bmap.specs.MapFile.{is_in_use}
use Rattle.jfs_steps.specs.objects.specs.Readers.{Readers}
use Rattle.jfs_steps.specs.objects.specs.Contents.{block_of}
use Rattle.jfs_steps.specs.objects.specs.Image.{file_extents, iags_on, area_on, volume_on}
use Rattle.jfs_recovery.specs.kinds.specs.Owner.{owner_of}
use Rattle.jfs_face.specs.Places.{Places, AreInAreas}
use Rattle.jfs_face.specs.Volume.{volume_with}

-- of a volume of so many blocks in groups, whose superblock has the second inode table and map at these places
abbrev pub places_on : Readers → ℕ → ℕ → ℕ → Pxd → Pxd → (ℕ → List ℕ) → Places
places_on r blocks agsize numag table map page = record {
  blocks = blocks;
  agsize = agsize;
  iags = iags_on r page;
  numag = numag;
  block_map = λ k. unwrap_or (block_of (file_extents r page 2) k) 0;
  inode_map = λ k. unwrap_or (block_of (file_extents r page 16) k) 0;
  area = area_on r table map page;
}

-- Both files have a block for each page that is in use.
pub record HasMapPages (r : Readers) (blocks : ℕ) (page : ℕ → List ℕ) : Type 0 where
  pub block_map : (k : ℕ) → is_in_use blocks k ≡ true → is_some (block_of (file_extents r page 2) k) ≡ true
  pub inode_map : (k : ℕ) → k ≤ iags_on r page → is_some (block_of (file_extents r page 16) k) ≡ true

-- So its maps stand in its fixed areas, and each block has the owner that the image gives it.
pub record IsSeenAsItIs (r : Readers) (blocks agsize numag : ℕ) (table map : Pxd) (page : ℕ → List ℕ) : Type 0 where
  pub areas : AreInAreas (places_on r blocks agsize numag table map page)
  pub owners : (b : ℕ) → owner_of r (volume_with (places_on r blocks agsize numag table map page) page) b ≡ owner_of r (volume_on r blocks table map page) b

abbrev pub MountedLaw : Type 0
MountedLaw = (r : Readers) (blocks agsize numag : ℕ) (table map : Pxd) (page : ℕ → List ℕ) → HasMapPages r blocks page → IsSeenAsItIs r blocks agsize numag table map page
