-- The files of both maps of a volume.
use Rattle.std.specs.Prelude.{◌≡◌, ◌+◌, ℕ, length}
use Rattle.jfs_map_files.specs.Places.{AreWithin}
use Rattle.jfs_map_files.specs.declared.map_file.MapFiles.{MapFiles}

-- The pages lie on blocks of so many. The block map's file has so many pages; the inode map's a control page and one for each inode allocation group (IAG).
pub record AreFilesOf (blocks pages iags : ℕ) (files : MapFiles) : Type 0 where
  pub map_within : AreWithin blocks files.blocks.places
  pub inodes_within : AreWithin blocks files.inodes.places
  pub map_pages : length files.blocks.places ≡ pages
  pub inode_pages : length files.inodes.places ≡ iags + 1
