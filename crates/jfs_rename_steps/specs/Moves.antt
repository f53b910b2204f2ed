-- What the transactions of a rename are.
use Rattle.std.specs.Prelude.{◌≡◌, ◌⊎◌, ◌<◌, ℕ, ◌+◌, ◌-◌, ◌==◌, ◌&&◌, not, Bool, true, if◌then◌else◌, List, Err}
use Rattle.jfs_bits.specs.declared.descriptor.Moment.{Moment}
use Rattle.jfs_bits.specs.declared.descriptor.Pxd.{Pxd}
use Rattle.jfs_inode.specs.Inode.{FitsDinode}
use Rattle.jfs_inode.specs.declared.fields.Dinode.{Dinode}
use Rattle.jfs_ranges.specs.declared.edit.Edit.{Edit}
use Rattle.jfs_plain.specs.declared.refusal.Refusal.{Refusal}
use Rattle.jfs_loss.specs.objects.specs.Objects.{has_names}
use Rattle.jfs_loss.specs.way.specs.Answer.{is_open, Answers}
use Rattle.jfs_loss.specs.way.specs.declared.object.Held.{Held}
use Rattle.jfs_loss.specs.steps.specs.Gains.{GainRefused}
use Rattle.jfs_loss.specs.steps.specs.Put.{AddsInode, TellsLines}
use Rattle.jfs_loss.specs.steps.specs.declared.gain.Gain.{Gain}
use Rattle.jfs_loss.specs.Causes.{lost_from}
use Rattle.jfs_rename_steps.specs.Entries.{GainsEntry, LeadsEntry, LosesEntry, LossRefused}
use Rattle.jfs_rename_steps.specs.Objects.{goes, unnamed, Arrives, FreesIf, MeetsIf}
use Rattle.jfs_rename_steps.specs.declared.entries.Entered.{Entered}
use Rattle.jfs_rename_steps.specs.declared.leaving.Leaving.{Leaving}
use Rattle.jfs_rename_steps.specs.declared.moving.Moving.{Moving}

-- ---- an object leaves its old name

-- It arrives, and then the directory that has its old name loses that.
pub record Leaves (blocks : ℕ) (pages : ℕ → List ℕ) (leaving : Leaving) (name : List ℕ) (now : Moment) (tx later : List Edit) : Type 0 where
  pub there : List Edit
  pub arrives : Arrives blocks pages leaving.object leaving.parent now tx there
  pub loses : LosesEntry blocks pages leaving.source name leaving.links now there later

-- Once it has arrived the directory keeps the old name; or the refusal is open.
abbrev pub StaysNamed : ℕ → (ℕ → List ℕ) → Leaving → List ℕ → Moment → List Edit → Refusal → Type 0
StaysNamed blocks pages leaving name now tx why = (is_open why ≡ true)
    ⊎ ((there : List Edit) × Arrives blocks pages leaving.object leaving.parent now tx there × LossRefused blocks pages leaving.source name there why)

-- ---- what moves

-- all three inodes lie within the file system part, and fit
abbrev pub IsWithin : ℕ → Moving → Type 0
IsWithin blocks moving = (moving.object.page < blocks) × (moving.source.page < blocks) × (moving.target.page < blocks)

abbrev pub FitMoving : Moving → Type 0
FitMoving moving = FitsDinode moving.object.inode × FitsDinode moving.source.inode × FitsDinode moving.target.inode

-- a directory comes to another directory
abbrev pub passes_over : Moving → Bool
passes_over moving = has_names moving.object.inode && not (moving.source.number == moving.target.number)

abbrev pub gain_of : Moving → Moment → Gain
gain_of moving now = record { inode = moving.object.number; links = if passes_over moving then moving.target.inode.nlink + 1 else moving.target.inode.nlink; now = now }

-- the source once the target has this inode: they may be one
abbrev pub source_after : Moving → Dinode → Held
source_after moving target = if moving.source.number == moving.target.number then record { number = moving.target.number; page = moving.target.page; inode = target } else moving.source

abbrev pub less_if : Bool → ℕ → ℕ
less_if x links = if x then links - 1 else links

abbrev pub leaving_with : Moving → Held → Bool → Leaving
leaving_with moving source less = record { object = moving.object; parent = moving.target.number; source = source; links = less_if less source.inode.nlink }

abbrev pub leaving_free : Moving → Dinode → Leaving
leaving_free moving target = leaving_with moving (source_after moving target) (passes_over moving)

-- where a directory takes the place of one, the source has one less
abbrev pub leaving_over : Moving → Dinode → Leaving
leaving_over moving target = leaving_with moving (source_after moving target) (has_names moving.object.inode)

-- ---- where nothing stands at the new name

-- The target gains the new name, and then the object leaves the old one.
pub record MovesToFree (blocks : ℕ) (pages : ℕ → List ℕ) (moving : Moving) (old new : List ℕ) (now : Moment) (free left : List Pxd) (tx : List Edit) : Type 0 where
  pub after : Entered
  pub gains : GainsEntry blocks pages moving.target new (gain_of moving now) free left after
  pub leaves : Leaves blocks pages (leaving_free moving after.inode) old now after.tx tx

-- The target refuses the new name; or it gains it, and then the object stays under the old one.
abbrev pub FreeRefused : ℕ → (ℕ → List ℕ) → Moving → List ℕ → List ℕ → Moment → List Pxd → Refusal → Type 0
FreeRefused blocks pages moving old new now free why = GainRefused blocks pages moving.target new (gain_of moving now) free why
    ⊎ ((after : Entered) × (left : List Pxd) × GainsEntry blocks pages moving.target new (gain_of moving now) free left after × StaysNamed blocks pages (leaving_free moving after.inode) old now after.tx why)

-- ---- where another object stands there

-- What that one has is freed where it goes; the target leads the new name to the object; that one loses it; and then the object leaves the old one.
pub record MovesOver (blocks : ℕ) (pages : ℕ → List ℕ) (moving : Moving) (there : Held) (old new : List ℕ) (now : Moment) (tx : List Edit) : Type 0 where
  pub freed : List Edit
  pub target : Dinode
  pub led : List Edit
  pub put : List Edit
  pub frees : FreesIf (goes there.inode) blocks pages there.inode freed
  pub leads : LeadsEntry blocks pages moving.target new moving.object.number now freed led target
  pub puts : AddsInode blocks pages there.page there.number (unnamed there.inode now) led put
  pub lines : TellsLines blocks pages there.page led put
  pub leaves : Leaves blocks pages (leaving_over moving target) old now put tx

-- The tree of that one breaks a rule; the target doesn't have the new name; or all this is done, and then the object stays under the old one.
abbrev pub OverRefused : ℕ → (ℕ → List ℕ) → Moving → Held → List ℕ → List ℕ → Moment → Refusal → Type 0
OverRefused blocks pages moving there old new now why = MeetsIf (goes there.inode) blocks pages there why ⊎ (Answers (lost_from blocks pages moving.target new) (Err why)
    ⊎ ((freed : List Edit) × (target : Dinode) × (led : List Edit) × (put : List Edit) × FreesIf (goes there.inode) blocks pages there.inode freed × LeadsEntry blocks pages moving.target new moving.object.number now freed led target
    × AddsInode blocks pages there.page there.number (unnamed there.inode now) led put × TellsLines blocks pages there.page led put × StaysNamed blocks pages (leaving_over moving target) old now put why))
