-- An object is made with blocks that are reserved for it.
use Rattle.std.specs.Prelude.{◌≡◌, ◌⊎◌, ℕ, Bool, true, List, Option, Result, Ok, Err}
use Rattle.jfs_bits.specs.declared.descriptor.Moment.{Moment}
use Rattle.jfs_bits.specs.declared.descriptor.Pxd.{Pxd}
use Rattle.jfs_disk.specs.declared.disk.Fault.{Fault}
use Rattle.jfs_imap.specs.Inodes.{Inodes}
use Rattle.jfs_bmap.specs.States.{Blocks, Reserved, put_state, is_used, is_in_list}
use Rattle.jfs_bmap.specs.Choice.{AreLowestBlocks}
use Rattle.jfs_ranges.specs.declared.edit.Edit.{Edit}
use Rattle.jfs_tree.specs.Edit.{count_in}
use Rattle.jfs_tree.specs.Fresh.{blocks_of}
use Rattle.jfs_plain.specs.Tree.{Tree}
use Rattle.jfs_plain.specs.Step.{Room, Outcome, need_of_name}
use Rattle.jfs_plain.specs.declared.refusal.Refusal.{Refusal}
use Rattle.jfs_plain.specs.declared.reply.Reply.TheVariants.{Done}
use Rattle.jfs_link.specs.meaning.specs.Consistent.{IsConsistent}
use Rattle.jfs_link.specs.meaning.specs.Readers.{readers}
use Rattle.jfs_link.specs.meaning.specs.Room.{room_on}
use Rattle.jfs_link.specs.room.specs.Laws.{blocks_in}
use Rattle.jfs_link.specs.claim.specs.Look.{IsAtRest}
use Rattle.jfs_link.specs.claim.specs.Take.{AreFresh, HasFree, IsRun, Lacks, run_list}
use Rattle.jfs_link.specs.claim.specs.declared.reserve.Want.{Want}
use Rattle.jfs_link.specs.way.specs.Answer.{is_open, CarriesCause}
use Rattle.jfs_link.specs.way.specs.Volume.{volume_of, PlacesWithin}
use Rattle.jfs_link.specs.way.specs.declared.object.Held.{Held}
use Rattle.jfs_link.specs.steps.specs.After.{after_call}
use Rattle.jfs_link.specs.steps.specs.Call.{IsDone}
use Rattle.jfs_link.specs.steps.specs.Gains.{GainRefused}
use Rattle.jfs_link.specs.steps.specs.Place.{last_of}
use Rattle.jfs_link.specs.Link.{ReservesFree, ReservesTaken}
use Rattle.jfs_create.specs.Look.{Passes, Barred, InRoom}
use Rattle.jfs_create.specs.Makes.{Makes, gain_of}
use Rattle.jfs_create.specs.Plans.{IsPlanned}
use Rattle.jfs_create.specs.Seat.{site_on, needs_run}
use Rattle.jfs_create.specs.declared.looks.Seen.{Seen}
use Rattle.jfs_create.specs.declared.make.Plan.{Plan}
use Rattle.jfs_create.specs.declared.new.NewObject.{NewObject}
use Rattle.jfs_create.specs.declared.plan.Draft.{Draft}
use Rattle.jfs_create.specs.declared.reserve.Stop.{Stop}
use Rattle.jfs_create.specs.declared.reserve.Stop.TheVariants.{Refused, NeedsLog}
use Rattle.jfs_create.specs.declared.seats.Site.{Site}

-- the count of faults rises only with a fault, which carries the part and the count that it raised
abbrev pub CarriesStop : {T : Type 0} → Fault → Fault → Result T Stop → Type 0
CarriesStop before now (Ok it) = now ≡ before
CarriesStop before now (Err (Refused why)) = CarriesCause before now why
CarriesStop before now (Err NeedsLog) = now ≡ before

-- ---- the blocks

-- What a new object wants reserved: a run, where an inode extent is to be made; and what a name may need, one by one.
abbrev pub want_with : Bool → Want
want_with run = record { run = run; blocks = need_of_name }

-- Blocks that were free, each once, are reserved beside those before. A commit is due only where there is no free run, if one is wanted, or too few blocks are free; then, and after a refusal, nothing has changed.
abbrev pub MapAfter : Blocks → Blocks → Result (List Edit) Stop → Type 0
MapAfter before now (Ok tx) = (taken : List ℕ) × ReservesFree before now taken
MapAfter before now (Err (Refused why)) = now ≡ before
MapAfter before now (Err NeedsLog) = (now ≡ before) × ((run : Bool) × Lacks before (want_with run))

-- What the edits may take: the lowest run of four free blocks, where an inode extent is to be made; and beside it eight blocks for the directory's tree, each the lowest free one.
pub record MayTake (before : Blocks) (site : Site) (run : Option Pxd) (free : List Pxd) : Type 0 where
  pub run_is : IsRun before (needs_run site) run
  pub lowest : AreLowestBlocks (is_used (put_state Reserved (run_list run) before)) free
  pub fresh : AreFresh before need_of_name (blocks_of free)
  pub apart : (b : ℕ) → is_in_list (run_list run) b ≡ true → count_in b (blocks_of free) ≡ 0

-- The object is made: what it wants was free, and exactly the blocks that its edits take are reserved beside those before.
pub record MakesReserved (blocks : ℕ) (pages : ℕ → List ℕ) (dir : Held) (name : List ℕ) (draft : Draft) (before now : Blocks) (tx : List Edit) : Type 0 where
  pub run : Option Pxd
  pub free : List Pxd
  pub left : List Pxd
  pub may : MayTake before draft.site run free
  pub plan : Plan
  pub planned : IsPlanned draft run plan
  pub makes : Makes blocks pages dir name plan free left tx
  pub wanted : HasFree before (want_with (needs_run draft.site))
  pub reserves : ReservesTaken before now tx

-- its directory doesn't take the name
pub record LacksPlace (blocks : ℕ) (pages : ℕ → List ℕ) (dir : Held) (name : List ℕ) (draft : Draft) (before : Blocks) (why : Refusal) : Type 0 where
  pub run : Option Pxd
  pub free : List Pxd
  pub may : MayTake before draft.site run free
  pub plan : Plan
  pub planned : IsPlanned draft run plan
  pub refused : GainRefused blocks pages dir name (gain_of plan dir) free why

abbrev pub NotMade : ℕ → (ℕ → List ℕ) → Held → List ℕ → Draft → Blocks → Stop → Type 0
NotMade blocks pages dir name draft before (Refused why) = (is_open why ≡ true) ⊎ LacksPlace blocks pages dir name draft before why
NotMade blocks pages dir name draft before NeedsLog = Lacks before (want_with (needs_run draft.site))

-- ---- the whole call, on any volume

abbrev pub draft_of : NewObject → Site → Moment → Draft
draft_of object site now = record { object = object; site = site; now = now }

-- The object is made in the directory of the path's last name, with the number that was looked for.
pub record IsMade (blocks : ℕ) (pages : ℕ → List ℕ) (inodes : Inodes) (path : List (List ℕ)) (object : NewObject) (now : Moment) (before after : Blocks) (tx : List Edit) : Type 0 where
  pub seen : Seen
  pub site : Site
  pub passes : Passes blocks pages before inodes path object seen
  pub sited : site_on blocks pages inodes seen.dir seen.fresh ≡ Ok site
  pub made : MakesReserved blocks pages seen.dir (last_of path) (draft_of object site now) before after tx

-- It isn't: something bars it; or its inode has no place; or its directory doesn't take the name; or the blocks that it wants aren't free.
abbrev pub IsStopped : ℕ → (ℕ → List ℕ) → Inodes → List (List ℕ) → NewObject → Moment → Blocks → Stop → Type 0
IsStopped blocks pages inodes path object now before (Refused why) = Barred blocks pages before inodes path object why
    ⊎ ((seen : Seen) × Passes blocks pages before inodes path object seen × ((site_on blocks pages inodes seen.dir seen.fresh ≡ Err why)
    ⊎ ((site : Site) × (site_on blocks pages inodes seen.dir seen.fresh ≡ Ok site) × NotMade blocks pages seen.dir (last_of path) (draft_of object site now) before (Refused why))))
IsStopped blocks pages inodes path object now before NeedsLog = (seen : Seen) × Passes blocks pages before inodes path object seen × Lacks before (want_with seen.fresh.needs_extent)

-- ---- on a consistent volume

-- Of a consistent volume whose room this is the transaction takes the plain step; a refusal is the plain step's, or it is open; and where a commit is due, the plain step isn't refused.
abbrev pub StepsInRoom : ℕ → (ℕ → List ℕ) → Blocks → Inodes → (Room → Tree → Outcome) → Result (List Edit) Stop → Type 0
StepsInRoom blocks pages map inodes plain (Ok tx) = blocks_in map ≡ blocks → IsAtRest map inodes → PlacesWithin blocks inodes → (area : ℕ → ℕ) → IsConsistent (readers blocks) (volume_of pages area map inodes) → (log_pages : ℕ)
    → IsDone blocks (volume_of pages area map inodes) (after_call blocks tx (volume_of pages area map inodes)) (plain (room_on (readers blocks) (volume_of pages area map inodes) blocks log_pages))
StepsInRoom blocks pages map inodes plain (Err (Refused why)) = InRoom blocks pages map inodes (λ room t. (plain room t ≡ Err why) ⊎ (is_open why ≡ true))
StepsInRoom blocks pages map inodes plain (Err NeedsLog) = InRoom blocks pages map inodes (λ room t. (u : Tree) × (plain room t ≡ Ok (Done, u)))
