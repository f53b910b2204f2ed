-- What a new volume means.
use Rattle.std.specs.Prelude.{◌≡◌, ℕ, ◌==◌, nat_lt, if◌then◌else◌, [], ◌∷◌, Some, None}
use Rattle.jfs_disk.specs.Image.{Image, page_of}
use Rattle.jfs_meaning.specs.page_tree.specs.Walk.{Page}
use Rattle.jfs_meaning.specs.page_tree.specs.Spells.{no_page}
use Rattle.jfs_meaning.specs.objects.specs.Readers.{Readers}
use Rattle.jfs_meaning.specs.objects.specs.Volume.{Volume}
use Rattle.jfs_meaning.specs.objects.specs.Objects.{Object, objects}
use Rattle.jfs_meaning.specs.objects.specs.Owners.{IsSound}
use Rattle.jfs_meaning.specs.objects.specs.Image.{volume_on}
use Rattle.jfs_format.specs.Layout.{IsLayout, free_blocks}
use Rattle.jfs_format.specs.Inodes.{fileset_inode}
use Rattle.jfs_format.specs.Superblock.{new_super}
use Rattle.jfs_format.specs.Volume.{IsNewVolume}
use Rattle.jfs_format.specs.declared.volume.NewVolume.{NewVolume}
use Rattle.jfs_meaning.specs.plain.specs.Moves.{Same}
use Rattle.jfs_meaning.specs.plain.specs.Plain.{new_tree}
use Rattle.jfs_meaning.specs.plain.specs.Step.{Room}
use Rattle.jfs_super.specs.Geometry.{file_limit_of}
use Rattle.jfs_meaning.specs.Image.{tree_of, room_of, IsConsistentImage}
use Rattle.jfs_new_volume.specs.Roots.{ReadsRoots}

-- the volume on these pages, with the second inode table and map where the superblock says
abbrev pub new_on : Readers → NewVolume → Image → Volume
new_on r v image = volume_on r v.layout.blocks (new_super v).ait2 (new_super v).aim2 (page_of image)

-- An inode of a new volume and its walk, which meets its root alone: the root directory has no name, the files have no extent.
abbrev pub new_object : NewVolume → ℕ → Object
new_object v n = record {
  inode = fileset_inode v n;
  names = if n == 2 then Page no_page ∷ [] else [];
  extents = if n == 2 then [] else Page no_page ∷ [];
}

-- A new volume has the objects 0 to 3, its maps agree, and no tree breaks a rule.
abbrev pub NewVolumeLaw : Type 0
NewVolumeLaw = (r : Readers) (pages : ℕ) (v : NewVolume) (image : Image) → IsLayout pages v.layout → ReadsRoots r v.layout.blocks → IsNewVolume v image
    → IsSound r (new_on r v image) × ((n : ℕ) → objects r (new_on r v image) n ≡ (if nat_lt n 4 then Some (new_object v n) else None))

-- What its pages mean by its superblock is consistent, and is the tree of a new volume of that moment.
abbrev pub NewTreeLaw : Type 0
NewTreeLaw = (pages : ℕ) (v : NewVolume) (image : Image) → IsLayout pages v.layout → IsNewVolume v image
    → IsConsistentImage (new_super v) (page_of image) × Same (new_tree v.moment) (tree_of (new_super v) (page_of image))

-- The room of a new volume: all blocks behind its areas are free, and a new object gets inode 4.
pub record HasNewRoom (v : NewVolume) (room : Room) : Type 0 where
  pub limit : room.limit ≡ file_limit_of v.layout.log.len
  pub free : room.free ≡ free_blocks v.layout
  pub inode : room.inode ≡ Some 4

abbrev pub NewRoomLaw : Type 0
NewRoomLaw = (pages : ℕ) (v : NewVolume) (image : Image) → IsLayout pages v.layout → IsNewVolume v image → HasNewRoom v (room_of (new_super v) (page_of image))
