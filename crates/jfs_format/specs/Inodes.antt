-- The inodes of a new volume. (JFS Layout; as the common tools write them.)
use Rattle.std.specs.Prelude.{◌≡◌, ℕ, ◌+◌, ◌*◌, ◌<◌, ◌==◌, nat_lt, ◌||◌, Bool, List, length, if◌then◌else◌, replicate}
use Rattle.jfs_bits.specs.declared.descriptor.Pxd.{Pxd}
use Rattle.jfs_bits.specs.declared.descriptor.Moment.{Moment}
use Rattle.jfs_bits.specs.Piece.{puts}
use Rattle.jfs_bits.specs.Bits.{is_in_run}
use Rattle.jfs_inode.specs.Inode.{inode_at, dinode_of, pieces}
use Rattle.jfs_inode.specs.declared.fields.Dinode.{Dinode}
use Rattle.jfs_format.specs.declared.volume.NewVolume.{NewVolume}
use Rattle.jfs_format.specs.declared.tables.Table.{Table}
use Rattle.jfs_format.specs.declared.tables.Table.TheVariants.{Aggregate, Fileset}
use Rattle.jfs_format.specs.Layout.{map_pages, inode_map, first_inodes}
use Rattle.jfs_format.specs.Root.{empty_rest, no_extents, one_extent, empty_root}

-- a number that isn't in use
abbrev pub no_inode : Dinode
no_inode = record {
  inostamp = 0;
  fileset = 0;
  number = 0;
  generation = 0;
  ixpxd = record { len = 0; addr = 0 };
  size = 0;
  nblocks = 0;
  nlink = 0;
  uid = 0;
  gid = 0;
  mode = 0;
  atime = record { sec = 0; nano = 0 };
  ctime = record { sec = 0; nano = 0 };
  mtime = record { sec = 0; nano = 0 };
  otime = record { sec = 0; nano = 0 };
  acl = record { flag = 0; size = 0; at = record { len = 0; addr = 0 } };
  ea = record { flag = 0; size = 0; at = record { len = 0; addr = 0 } };
  next_index = 0;
  acltype = 0;
  rest = empty_rest;
}

-- an inode in its extent that was made just now: a file with one name, without a block
abbrev pub new_file : Moment → ℕ → Pxd → ℕ → Dinode
new_file now fileset extent number = record no_inode {
  inostamp = now.sec;
  fileset = fileset;
  number = number;
  generation = 1;
  ixpxd = extent;
  nlink = 1;
  mode = 0x00018000;
  atime = now;
  ctime = now;
  mtime = now;
  otime = now;
  next_index = 2;
  rest = no_extents;
}

-- one whose blocks are a run
abbrev pub file_of : Pxd → Dinode → Dinode
file_of run d = record d { size = 4096 * run.len; nblocks = run.len; rest = one_extent run }

-- Inode n of the aggregate: 0 is reserved, 1 the inode map, 2 the block map, 3 the log, 4 the bad blocks, 16 the fileset's inode map.
abbrev pub aggregate_inode : NewVolume → ℕ → Dinode
aggregate_inode v n =
    let plain = new_file v.moment 1 (record { len = 4; addr = 11 }) n in
    if n == 0 then record no_inode { nlink = 1 }
    else (if n == 1 then file_of (record { len = 2; addr = 9 }) plain
    else (if n == 2 then file_of (record { len = map_pages v.layout; addr = 16 }) plain
    else (if n == 3 then plain
    -- sparse
    else (if n == 4 then record plain { mode = 0x00038000 }
    else (if n == 16 then file_of (record { len = 1 + v.layout.iags; addr = inode_map v.layout }) plain
    else no_inode)))))

-- Inode n of the fileset: 0, 1 and 3 are reserved, and files with mode 0; 2 is the root directory, with mode 0755 and its two links `.` and `..`.
abbrev pub fileset_inode : NewVolume → ℕ → Dinode
fileset_inode v n =
    let plain = new_file v.moment 16 (record { len = 4; addr = first_inodes v.layout }) n in
    if n == 2 then record plain { size = 256; nlink = 2; mode = 0x000141ed; rest = empty_root }
    else (if nat_lt n 4 then plain else no_inode)

-- the inodes of a table, by their number
abbrev pub inode_in : Table → NewVolume → ℕ → Dinode
inode_in Aggregate v = aggregate_inode v
inode_in Fileset v = fileset_inode v

-- which numbers are in use
abbrev pub in_use : Table → ℕ → Bool
in_use Aggregate n = is_in_run 0 5 n || is_in_run 16 1 n
in_use Fileset n = is_in_run 0 4 n

-- the 512 bytes of an inode: its fields, and zeros in the reserved bytes
pub record IsInodeOf (d : Dinode) (bytes : List ℕ) : Type 0 where
  pub reads : dinode_of bytes ≡ d
  pub whole : bytes ≡ puts (pieces d) (replicate 512 0)

-- page `k` of a table of inodes has eight of them
pub record IsTablePage (inode : ℕ → Dinode) (k : ℕ) (page : List ℕ) : Type 0 where
  pub size : length page ≡ 4096
  pub slots : (slot : ℕ) → slot < 8 → IsInodeOf (inode (8 * k + slot)) (inode_at page slot)
