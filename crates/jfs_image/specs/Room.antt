-- The room of an image.
use Rattle.std.specs.Prelude.{◌≡◌, ℕ, Option, Some, None}
use Rattle.jfs_disk.specs.Image.{Image, page_of}
use Rattle.jfs_reader.specs.meaning.specs.Image.{room_of}
use Rattle.jfs_image.specs.Image.{HasTree, super_on}
use Rattle.jfs_image.specs.declared.room.Room.{Room}

-- the inode that a new object gets
abbrev pub FreshIs : Image → Option ℕ → Type 0
FreshIs image inode = inode ≡ (room_of (super_on image) (page_of image)).inode

-- the image's free blocks, and the inode that a new object gets
pub record IsRoomOf (image : Image) (room : Room) : Type 0 where
  pub has : HasTree image
  pub free_are : room.free ≡ (room_of (super_on image) (page_of image)).free
  pub inode_is : FreshIs image room.inode

-- There is one exactly where the image has a tree.
abbrev pub RoomIs : Image → Option Room → Type 0
RoomIs image None = HasTree image → ⊥
RoomIs image (Some room) = IsRoomOf image room
