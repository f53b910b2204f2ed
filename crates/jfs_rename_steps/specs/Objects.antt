-- What becomes of the objects of a rename.
use Rattle.std.specs.Prelude.{◌≡◌, ℕ, ◌||◌, nat_le, if◌then◌else◌, Bool, true, false, List, [], length, Err}
use Rattle.byteorder.specs.Endian.{little_bytes}
use Rattle.jfs_bits.specs.Field.{put_bytes}
use Rattle.jfs_bits.specs.declared.descriptor.Moment.{Moment}
use Rattle.jfs_inode.specs.declared.fields.Dinode.{Dinode}
use Rattle.jfs_ranges.specs.declared.edit.Edit.{Edit}
use Rattle.jfs_dtpage.specs.declared.head.DtForm.TheVariants.{Root}
use Rattle.jfs_dtree.specs.Node.{dt_node}
use Rattle.jfs_dtree.specs.Parent.{parent_of}
use Rattle.jfs_plain.specs.declared.refusal.Refusal.{Refusal}
use Rattle.jfs_loss.specs.objects.specs.Objects.{has_names}
use Rattle.jfs_loss.specs.meaning.specs.Readers.{root_of}
use Rattle.jfs_loss.specs.way.specs.Answer.{is_open}
use Rattle.jfs_loss.specs.way.specs.declared.object.Held.{Held}
use Rattle.jfs_loss.specs.steps.specs.Put.{AddsInode, TellsLines}
use Rattle.jfs_loss.specs.Causes.{MeetsTree}
use Rattle.jfs_loss.specs.Frees.{FreesObject}
use Rattle.jfs_loss.specs.Inodes.{fallen, gone}

-- a directory, or an object with one link, goes with the name that it loses
abbrev pub goes : Dinode → Bool
goes d = has_names d || nat_le d.nlink 1

-- its inode then has no link, and is free; another has one link less
abbrev pub unnamed : Dinode → Moment → Dinode
unnamed d now = if goes d then gone d else fallen d now

-- A root that names this parent, and else has the bytes of another: it reads as that one, whatever it reads as.
pub record NamesParent (parent : ℕ) (root after : List ℕ) : Type 0 where
  pub width : length after ≡ 288
  pub bytes : after ≡ put_bytes 20 (little_bytes 4 parent) root
  pub parent_is : parent_of after ≡ parent
  pub node : (blocks : ℕ) → dt_node Root blocks after ≡ dt_node Root blocks root

-- An object that has come to a directory is changed now; a directory's root names that one as its parent.
abbrev pub HasArrived : Bool → Dinode → ℕ → Moment → Dinode → Type 0
HasArrived true d parent now after = (root : List ℕ) × NamesParent parent (root_of d) root × (length d.rest ≡ 384) × (after ≡ record d { rest = put_bytes 96 root d.rest; ctime = now })
HasArrived false d parent now after = after ≡ record d { ctime = now }

-- its inode is put, on top of a transaction
pub record Arrives (blocks : ℕ) (pages : ℕ → List ℕ) (object : Held) (parent : ℕ) (now : Moment) (tx later : List Edit) : Type 0 where
  pub inode : Dinode
  pub arrived : HasArrived (has_names object.inode) object.inode parent now inode
  pub puts : AddsInode blocks pages object.page object.number inode tx later
  pub lines : TellsLines blocks pages object.page tx later

-- what an object has is freed where it goes
abbrev pub FreesIf : Bool → ℕ → (ℕ → List ℕ) → Dinode → List Edit → Type 0
FreesIf true blocks pages d tx = FreesObject blocks pages d tx
FreesIf false blocks pages d tx = tx ≡ []

-- why it isn't: the first page of its tree that breaks a rule, or it is open
abbrev pub MeetsIf : Bool → ℕ → (ℕ → List ℕ) → Held → Refusal → Type 0
MeetsIf true blocks pages at why = MeetsTree {T = List Edit} blocks pages at (Err why)
MeetsIf false blocks pages at why = is_open why ≡ true
