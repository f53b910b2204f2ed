-- The node of a file tree that an object is. (JFS Layout, struct dinode; POSIX: struct stat.)
use Rattle.std.specs.Prelude.{ℕ, ◌==◌, Bool, nat_lt, if◌then◌else◌, List, [], Option, Some, None, Result, Ok, Err}
use Rattle.std.specs.Int.RustNames.{bit_and}
use Rattle.jfs_bits.specs.Field.{range_of}
use Rattle.jfs_bits.specs.declared.extent.Xad.{Xad}
use Rattle.jfs_bits.specs.declared.rule.Rule.{Rule}
use Rattle.jfs_inode.specs.Rules.{type_of}
use Rattle.jfs_inode.specs.declared.fields.Dinode.{Dinode}
use Rattle.jfs_name.specs.declared.name.NameEntry.{NameEntry}
use Rattle.jfs_dtree.specs.Parent.{parent_of}
use Rattle.jfs_plain.specs.Step.{bytes_from}
use Rattle.jfs_plain.specs.declared.node.Node.{Node}
use Rattle.jfs_plain.specs.declared.node.Times.{Times}
use Rattle.jfs_plain.specs.declared.reply.NodeKind.{NodeKind}
use Rattle.jfs_plain.specs.declared.reply.NodeKind.TheVariants.{Dir, File, Link, Other}
use Rattle.jfs_objects.specs.Readers.{Readers}
use Rattle.jfs_objects.specs.Objects.{Object, has_names, listed}
use Rattle.jfs_meaning.specs.Readers.{root_of}
use Rattle.jfs_meaning.specs.Contents.{stored}

-- devices, pipes and sockets are `Other`
abbrev pub kind_of : ℕ → NodeKind
kind_of type = if type == 0x4000 then Dir else (if type == 0x8000 then File else (if type == 0xa000 then Link else Other))

abbrev pub times_of : Dinode → Times
times_of d = record { accessed = d.atime; modified = d.mtime; changed = d.ctime; made = d.otime }

-- A directory's size isn't told.
abbrev pub size_of : Dinode → ℕ
size_of d = if has_names d then 0 else d.size

-- a directory's root names its parent
abbrev pub parent_in : Dinode → ℕ
parent_in d = if has_names d then parent_of (root_of d) else 0

abbrev pub is_symbolic : Dinode → Bool
is_symbolic d = type_of d == 0xa000

-- A target of fewer than 256 bytes stands in the inode from byte 256 on, a longer one in the link's blocks.
abbrev pub target_in : Readers → (ℕ → List ℕ) → Object → List ℕ
target_in r page o = if is_symbolic o.inode
    then (if nat_lt o.inode.size 256 then range_of o.inode.rest 128 o.inode.size else bytes_from (stored r page (Some o)) 0 o.inode.size)
    else []

-- an inode with this target and these names
abbrev pub node_with : Dinode → List ℕ → List NameEntry → Node
node_with d target names = record {
  kind = kind_of (type_of d);
  -- the twelve permission bits
  mode = bit_and d.mode 0xfff;
  uid = d.uid;
  gid = d.gid;
  links = d.nlink;
  size = size_of d;
  parent = parent_in d;
  times = times_of d;
  target = target;
  names = names;
}

-- An object is no node where a tree of it breaks a rule.
abbrev pub node_from : Dinode → List ℕ → Result (List NameEntry) (ℕ × Rule) → Result (List Xad) (ℕ × Rule) → Option Node
node_from d target (Ok names) (Ok extents) = Some (node_with d target names)
node_from d target (Ok names) (Err fault) = None
node_from d target (Err fault) extents = None

abbrev pub node_of : Readers → (ℕ → List ℕ) → Object → Option Node
node_of r page o = node_from o.inode (target_in r page o) (listed r.names_order o.names) (listed r.extents_order o.extents)

abbrev pub node_in : Readers → (ℕ → List ℕ) → Option Object → Option Node
node_in r page None = None
node_in r page (Some o) = node_of r page o
