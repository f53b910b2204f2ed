-- The edits that make an object: its directory gains the name, a new inode extent is told if there is one, and the inode is put into its slot.
use Rattle.std.specs.Prelude.{◌≡◌, ◌<◌, ◌≤◌, ℕ, ◌+◌, ◌*◌, false, List, length, get_or, Option, Some, None}
use Rattle.jfs_bits.specs.Descriptor.{FitsPxd}
use Rattle.jfs_bits.specs.declared.descriptor.Moment.{Moment}
use Rattle.jfs_bits.specs.declared.descriptor.Pxd.{Pxd}
use Rattle.jfs_inode.specs.declared.fields.Dinode.{Dinode}
use Rattle.jfs_ranges.specs.declared.edit.Edit.{Edit}
use Rattle.jfs_tree.specs.Edit.{count_in}
use Rattle.jfs_link.specs.objects.specs.Owners.{extent_has}
use Rattle.jfs_link.specs.objects.specs.Volume.{Volume, home}
use Rattle.jfs_plain.specs.Tree.{Tree}
use Rattle.jfs_plain.specs.Moves.{changed, rises}
use Rattle.jfs_plain.specs.Step.{Room, Outcome, create, mkdir, symlink}
use Rattle.jfs_link.specs.way.specs.declared.object.Held.{Held}
use Rattle.jfs_link.specs.steps.specs.Gains.{GainsName}
use Rattle.jfs_link.specs.steps.specs.Put.{AddsInode, TellsLines}
use Rattle.jfs_link.specs.steps.specs.declared.gain.Gain.{Gain}
use Rattle.jfs_create.specs.Extent.{TellsExtent}
use Rattle.jfs_create.specs.New.{IsNewInode}
use Rattle.jfs_create.specs.declared.extent.NewExtent.{NewExtent}
use Rattle.jfs_create.specs.declared.new.NewObject.{NewObject}
use Rattle.jfs_create.specs.declared.new.NewObject.TheVariants.{File, Directory, Link}
use Rattle.jfs_create.specs.declared.make.Plan.{Plan}

-- a directory has one link more for a directory in it
abbrev pub links_after : NewObject → ℕ → ℕ
links_after (File mode) links = links
links_after (Directory mode) links = links + 1
links_after (Link target) links = links

-- the edit of a new inode extent, where there is one
abbrev pub IsBetween : Option NewExtent → List Edit → List Edit → Type 0
IsBetween None tx later = later ≡ tx
IsBetween (Some extent) tx later = TellsExtent extent tx later

-- its run and its numbers fit
abbrev pub FitsExtent : NewExtent → Type 0
FitsExtent extent = FitsPxd extent.run × (extent.run.addr < 4294967296) × (extent.first + 32 ≤ 4294967296)

-- what the directory gains beside the name
abbrev pub gain_of : Plan → Held → Gain
gain_of plan dir = record { inode = plan.seat.number; links = links_after plan.object dir.inode.nlink; now = plan.now }

pub record Makes (blocks : ℕ) (pages : ℕ → List ℕ) (dir : Held) (name : List ℕ) (plan : Plan) (free left : List Pxd) (tx : List Edit) : Type 0 where
  pub mid : List Edit
  pub gains : GainsName blocks pages dir name (gain_of plan dir) free left mid
  pub more : List Edit
  pub extent : IsBetween plan.extent mid more
  pub inode : Dinode
  pub is_new : IsNewInode plan.object plan.seat plan.now inode
  pub puts : AddsInode blocks pages plan.page plan.seat.number inode more tx
  pub lines : TellsLines blocks pages plan.page more tx

-- ---- where its inode can stand

-- A new extent: four blocks within the volume that aren't in use, and aren't those that the directory's tree may take; at a place that has none, not the first.
pub record IsNewPlace (blocks : ℕ) (v : Volume) (free : List ℕ) (number page : ℕ) (extent : NewExtent) : Type 0 where
  pub place : ℕ
  pub numbers : extent.first ≡ 32 * place
  pub first : number ≡ extent.first
  pub page_is : page ≡ extent.run.addr
  pub inside : extent.run.addr + 4 ≤ blocks
  pub behind : 0 < place
  pub few : place < length v.extents
  pub none : get_or v.extents place None ≡ None
  pub fresh : (b : ℕ) → 0 < extent_has (Some extent.run.addr) b → v.used b ≡ false
  pub apart : (b : ℕ) → 0 < extent_has (Some extent.run.addr) b → count_in b free ≡ 0

-- it stands on its page, or it will in a new extent
abbrev pub CanStand : ℕ → Volume → List ℕ → ℕ → ℕ → Option NewExtent → Type 0
CanStand blocks v free number page None = home v.extents number ≡ Some page
CanStand blocks v free number page (Some extent) = IsNewPlace blocks v free number page extent

-- ---- the plain step

abbrev pub plain_of : NewObject → Room → Tree → List (List ℕ) → Moment → Outcome
plain_of (File mode) room t path now = create room t path mode now
plain_of (Directory mode) room t path now = mkdir room t path mode now
plain_of (Link target) room t path now = symlink room t path target.now now

-- what else becomes of the tree where such an object is made in directory n
abbrev pub also : NewObject → ℕ → Tree → Tree
also (File mode) n t = t
also (Directory mode) n t = changed n rises t
also (Link target) n t = t
