-- A new object, and its inode. (JFS Layout, struct dinode.)
use Rattle.std.specs.Prelude.{◌≡◌, ◌≤◌, ◌<◌, ℕ, ◌+◌, ◌%◌, ◌^◌, nat_le, if◌then◌else◌, List, [], length}
use Rattle.jfs_bits.specs.Field.{range_of}
use Rattle.jfs_bits.specs.declared.extent.Dxd.{Dxd}
use Rattle.jfs_bits.specs.declared.descriptor.Moment.{Moment}
use Rattle.jfs_inode.specs.declared.fields.Dinode.{Dinode}
use Rattle.jfs_tree.specs.Walk.{Leaf}
use Rattle.jfs_xtpage.specs.declared.head.XtForm.TheVariants as extents
use Rattle.jfs_xtree.specs.Node.{xt_node}
use Rattle.jfs_dtree.specs.Parent.{parent_of}
use Rattle.jfs_dtree.specs.Spells.{root_node}
use Rattle.jfs_plain.specs.Moves.{new_file, new_directory, new_link}
use Rattle.jfs_plain.specs.declared.node.Node.{Node}
use Rattle.jfs_create.specs.declared.new.NewObject.{NewObject}
use Rattle.jfs_create.specs.declared.new.NewObject.TheVariants.{File, Directory, Link}
use Rattle.jfs_create.specs.declared.new.Seat.{Seat}

-- twelve permission bits; 1 to 255 bytes
abbrev pub FitsNew : NewObject → Type 0
FitsNew (File mode) = mode < 4096
FitsNew (Directory mode) = mode < 4096
FitsNew (Link target) = (0 < length target.now) × (length target.now ≤ 255)

-- ---- the fields that differ by what it is

-- The type of the object. A file may have holes (0x20000), or the common checker would take away one that has. A link has mode 0777; where its target and the byte behind it reach no
-- further than the inode's last 128 bytes, attributes may stand there (0x40000). (JFS Layout, ISPARSE, INLINEEA.)
abbrev pub mode_of : NewObject → ℕ
mode_of (File mode) = 0x38000 + mode
mode_of (Directory mode) = 0x14000 + mode
mode_of (Link target) = if nat_le (length target.now) 127 then 0x5a1ff else 0x1a1ff

-- a directory has a link of its own
abbrev pub links_of : NewObject → ℕ
links_of (File mode) = 1
links_of (Directory mode) = 2
links_of (Link target) = 1

-- an empty directory is told to have 256 bytes
abbrev pub size_of : NewObject → ℕ
size_of (File mode) = 0
size_of (Directory mode) = 256
size_of (Link target) = length target.now

abbrev pub root_in : List ℕ → List ℕ
root_in rest = range_of rest 96 288

-- the root of an empty tree, in a directory with its parent
abbrev pub IsFileRest : List ℕ → Type 0
IsFileRest rest = (blocks : ℕ) → xt_node extents.Root blocks (root_in rest) ≡ Leaf []

abbrev pub IsDirectoryRest : ℕ → List ℕ → Type 0
IsDirectoryRest parent rest = ((blocks : ℕ) → root_node blocks (root_in rest) ≡ Leaf []) × (parent_of (root_in rest) ≡ parent)

-- a link's target stands from byte 256 of the inode on
abbrev pub IsRest : NewObject → ℕ → List ℕ → Type 0
IsRest (File mode) parent rest = IsFileRest rest
IsRest (Directory mode) parent rest = IsDirectoryRest parent rest
IsRest (Link target) parent rest = range_of rest 128 (length target.now) ≡ target.now

-- ---- the inode

abbrev pub no_data : Dxd
no_data = record { flag = 0; size = 0; at = record { len = 0; addr = 0 } }

-- One above the slot's old generation, in 32 bits; all times the call's moment; no attributes.
abbrev pub inode_with : NewObject → Seat → Moment → List ℕ → Dinode
inode_with object seat now rest = record {
  inostamp = seat.stamp;
  fileset = 16;
  number = seat.number;
  generation = (seat.generation + 1) % 2 ^ 32;
  ixpxd = seat.extent;
  size = size_of object;
  nblocks = 0;
  nlink = links_of object;
  uid = 0;
  gid = 0;
  mode = mode_of object;
  atime = now;
  ctime = now;
  mtime = now;
  otime = now;
  acl = no_data;
  ea = no_data;
  next_index = 2;
  acltype = 0;
  rest = rest;
}

pub record IsNewInode (object : NewObject) (seat : Seat) (now : Moment) (d : Dinode) : Type 0 where
  pub rest : List ℕ
  pub is : d ≡ inode_with object seat now rest
  pub rest_is : IsRest object seat.parent rest

-- ---- the node that it is in the tree

abbrev pub node_for : NewObject → ℕ → Moment → Node
node_for (File mode) parent now = new_file mode now
node_for (Directory mode) parent now = new_directory mode parent now
node_for (Link target) parent now = new_link target.now now
