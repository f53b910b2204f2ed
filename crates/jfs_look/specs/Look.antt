-- What the calls that only look tell. (POSIX: stat, readdir.)
use Rattle.std.specs.Prelude.{◌≡◌, ℕ, if◌then◌else◌, List, Result, Ok, Err}
use Rattle.std.specs.Int.RustNames.{bit_and}
use Rattle.jfs_inode.specs.Rules.{type_of}
use Rattle.jfs_bits.specs.declared.rule.Rule.{Rule}
use Rattle.jfs_name.specs.declared.name.NameEntry.{NameEntry}
use Rattle.jfs_imap.specs.Inodes.{Inodes}
use Rattle.jfs_dtree.specs.Spells.{spells_names}
use Rattle.jfs_way.specs.objects.specs.Objects.{has_names}
use Rattle.jfs_way.specs.meaning.specs.Readers.{root_of}
use Rattle.jfs_way.specs.meaning.specs.Node.{kind_of, size_of}
use Rattle.jfs_plain.specs.Tree.{Tree, and_then}
use Rattle.jfs_plain.specs.declared.refusal.Refusal.{Refusal}
use Rattle.jfs_plain.specs.declared.refusal.Refusal.TheVariants.{NotDir, Damaged}
use Rattle.jfs_plain.specs.declared.reply.Reply.{Reply}
use Rattle.jfs_plain.specs.declared.reply.Reply.TheVariants.{Attr, Names}
use Rattle.jfs_plain.specs.declared.reply.Stat.{Stat}
use Rattle.jfs_way.specs.Answer.{at_root}
use Rattle.jfs_way.specs.Way.{path_of}
use Rattle.jfs_way.specs.declared.object.Held.{Held}

-- ---- attributes

-- What is told of an inode. The permission bits are the low twelve of its mode, and a directory's size isn't told.
abbrev pub stat_in : Held → Stat
stat_in at = record {
  kind = kind_of (type_of at.inode);
  mode = bit_and at.inode.mode 0xfff;
  nlink = at.inode.nlink;
  uid = at.inode.uid;
  gid = at.inode.gid;
  size = size_of at.inode;
  inode = at.number;
  mtime = at.inode.mtime;
}

-- what is told of the inode at the end of a path, whatever the volume holds
abbrev pub stat_at : ℕ → (ℕ → List ℕ) → Inodes → List (List ℕ) → Result Stat Refusal
stat_at blocks pages inodes path = and_then (path_of blocks pages inodes path) (λ at. Ok (stat_in at))

-- The plain step answers this, and leaves the tree.
abbrev pub IsAttr : Tree → Reply × Tree → Stat → Type 0
IsAttr t out told = out ≡ (Attr told, t)

-- ---- names

-- The first broken rule of a directory's tree, with its page; the root stands on its inode's page.
abbrev pub if_spelled : ℕ → Result (List NameEntry) (ℕ × Rule) → Result (List NameEntry) Refusal
if_spelled page (Ok names) = Ok names
if_spelled page (Err bad) = Err (Damaged (at_root page bad.0) bad.1)

-- the names of an inode, which is to be a directory
abbrev pub names_from : ℕ → (ℕ → List ℕ) → Held → Result (List NameEntry) Refusal
names_from blocks pages at = if has_names at.inode then if_spelled at.page (spells_names blocks pages (root_of at.inode)) else Err NotDir

-- the names of the directory at the end of a path, whatever the volume holds
abbrev pub names_at : ℕ → (ℕ → List ℕ) → Inodes → List (List ℕ) → Result (List NameEntry) Refusal
names_at blocks pages inodes path = and_then (path_of blocks pages inodes path) (names_from blocks pages)

-- The plain step answers these names, and leaves the tree.
abbrev pub IsNames : Tree → Reply × Tree → List NameEntry → Type 0
IsNames t out names = out ≡ (Names names, t)
