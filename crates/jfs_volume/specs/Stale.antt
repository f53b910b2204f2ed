-- Which map an entry changes.
use Rattle.std.specs.Prelude.{◌==◌, ◌||◌, Bool, not, List, length, is_some}
use Rattle.jfs_bits.specs.declared.descriptor.Pxd.{Pxd}
use Rattle.jfs_map_files.specs.declared.map_file.MapFiles.{MapFiles}
use Rattle.jfs_marks.specs.declared.marks.InodeMarks.{InodeMarks}

-- the block map, where it takes or frees a run
abbrev pub changes_blocks : List Pxd → List Pxd → Bool
changes_blocks taken freed = not (length taken == 0) || not (length freed == 0)

-- the inode map, where it has a mark
abbrev pub changes_inodes : InodeMarks → Bool
changes_inodes marks = is_some marks.extent || (is_some marks.taken || is_some marks.freed)

-- the files of the maps that it changes are stale
abbrev pub stale_after : List Pxd → List Pxd → InodeMarks → MapFiles → MapFiles
stale_after taken freed marks files = record {
  blocks = record files.blocks { stale = changes_blocks taken freed || files.blocks.stale };
  inodes = record files.inodes { stale = changes_inodes marks || files.inodes.stale };
}
