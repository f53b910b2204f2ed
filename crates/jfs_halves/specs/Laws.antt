-- Each change of two halves is a step of the crash core that they make, or none, and is allowed there.
use Rattle.std.specs.Prelude.{◌≡◌, ◌<◌, ◌≤◌, ◌^◌, ◌*◌, ◌+◌, ◌-◌, ℕ, Bool, if◌then◌else◌, List, [], ◌∷◌, ◌++◌, length, take, map, get_or, None}
use Rattle.jfs_disk.specs.Image.{Image, ArePages}
use Rattle.jfs_disk.specs.Crash.{DiskState, IsCrashImage}
use Rattle.jfs_disk.specs.declared.page.Page.{Page}
use Rattle.jfs_core.specs.declared.step.Step.{Step}
use Rattle.jfs_core.specs.declared.step.Step.TheVariants as steps
use Rattle.jfs_core.specs.declared.step.FaultOf.TheVariants as faults
use Rattle.jfs_core.specs.Core.{fresh_block}
use Rattle.jfs_core.specs.Image.{pages_after}
use Rattle.jfs_core.specs.Step.{AreAllowed, after_steps}
use Rattle.jfs_core.specs.Sound.{IsSound, IsLogImage, AlwaysRecovers, Survives}
use Rattle.jfs_records.specs.Entries.{point}
use Rattle.jfs_halves.specs.Entry.{Shown, Happened, edits, image_after}
use Rattle.jfs_map_files.specs.bmap.specs.States.{Busy, state_of}
use Rattle.jfs_halves.specs.Half.{VolumeHalf, Halves, is_open, core_of, page_in, low_in}
use Rattle.jfs_halves.specs.Change.{Change, after as after_volume, FitAll as FitAllOfVolume, Enters, Takes, Tells, HandsOut, GoesHome, Tears, Drops, Writes, WriteTears, Stops, LogStops, Syncs, Points, Knows}
use Rattle.jfs_halves.specs.Both.{BothChange, Changes, GroupIsWritten, GroupFails, changed, FitAll, after, states_after}

-- The core has entries of lines alone: a write past the log and a page that is dropped are none of its steps.
abbrev pub IsLogged : BothChange → Type 0
IsLogged (Changes (Writes p bytes)) = ⊥
IsLogged (Changes (WriteTears p bytes sectors fault)) = ⊥
IsLogged (Changes (Drops p)) = ⊥
IsLogged c = Unit {0}

abbrev pub AreLogged : List BothChange → Type 0
AreLogged [] = Unit {0}
AreLogged (c ∷ cs) = IsLogged c × AreLogged cs

-- ---- steps

abbrev step_if : Bool → Step → List Step
step_if happens step = if happens then step ∷ [] else []

abbrev page_with : List ℕ → Page
page_with bytes = record { 0 = bytes }

-- The core's step that a change is. A group of nothing is none, and so is what the volume does or comes to know without the core.
abbrev pub steps_of : Halves → BothChange → List Step
steps_of both (Changes (Enters h)) = steps.Append (edits h) ∷ []
steps_of both (Changes Takes) = step_if (is_open (changed both (Changes Takes))) steps.Take
steps_of both (Changes (Tells n)) = steps.Told ∷ []
steps_of both (Changes (GoesHome p)) = steps.Home p ∷ []
steps_of both (Changes (Tears p sectors fault)) = steps.Fault fault (faults.LowWrite p (page_with (page_in both.volume p)) sectors) ∷ []
steps_of both (Changes (Stops fault)) = steps.Fault fault faults.LowSync ∷ []
steps_of both (Changes Syncs) = steps.LowSync ∷ []
steps_of both (Changes Points) = steps.SyncPoint (length both.volume.history) ∷ []
steps_of both (Changes HandsOut) = []
steps_of both (Changes (LogStops fault)) = []
steps_of both (Changes Knows) = []
steps_of both (Changes (Writes p bytes)) = []
steps_of both (Changes (WriteTears p bytes sectors fault)) = []
steps_of both (Changes (Drops p)) = []
steps_of both GroupIsWritten = steps.GroupWrite ∷ []
steps_of both (GroupFails fault) = steps.Fault fault faults.GroupWrite ∷ []

abbrev pub steps_after : Halves → List BothChange → List Step
steps_after both [] = []
steps_after both (c ∷ cs) = steps_of both c ++ steps_after (changed both c) cs

-- ---- sound halves

-- the pages after each entry follow from its transaction
abbrev pub AreReplayed : Image → List Happened → Type 0
AreReplayed image [] = Unit {0}
AreReplayed image (h ∷ hs) = (h.after.pages ≡ pages_after 0 (edits h) image) × AreReplayed h.after.pages hs

-- Two halves that make a sound core, while nothing was written past the log and no page was dropped: the volume shows the pages after its entries.
pub record AreSound (both : Halves) : Type 0 where
  pub sound : IsSound (core_of both)
  pub replayed : AreReplayed both.volume.mounted both.volume.history
  pub shown : both.volume.shown.pages ≡ image_after both.volume.mounted both.volume.history
  -- the volume has halted where a part of its disk has
  pub halted : both.volume.halted ≡ None → (both.volume.low_halted ≡ None) × (both.log.log_halted ≡ None)

-- ---- laws

-- Changes that fit are a run of allowed steps, which leads to the core of the halves after them. These are sound, and whatever a crash leaves of them is recovered.
pub record AreSteps (both : Halves) (list : List BothChange) : Type 0 where
  pub allowed : AreAllowed (core_of both) (steps_after both list)
  pub core : core_of (after both list) ≡ after_steps (core_of both) (steps_after both list)
  pub sound : AreSound (after both list)
  pub recovers : AlwaysRecovers (core_of (after both list))

abbrev pub ChangesAreSteps : Type 0
ChangesAreSteps = (both : Halves) (list : List BothChange) → AreSound both → FitAll both list → AreLogged list → AreSteps both list

-- So each acknowledged entry survives: it is among the first n, whose image redo of a crash gives.
abbrev pub AcknowledgedSurvive : Type 0
AcknowledgedSurvive = (both : Halves) (list : List BothChange) → AreSound both → FitAll both list → AreLogged list → (low : Image) (c n : ℕ)
    → IsCrashImage (low_in (after both list).volume) low → IsLogImage (core_of (after both list)) c n → Survives (core_of both) (core_of (after both list)) low c n

-- Each state that the low part has been in is the one after a front of the changes: so what is said of a core after changes holds at each moment between them.
pub record IsFrontState (both : Halves) (list : List BothChange) (state : DiskState) : Type 0 where
  pub upto : ℕ
  pub front : upto ≤ length list
  pub is : state ≡ low_in (after both (take upto list)).volume

abbrev pub MomentsAreFronts : Type 0
MomentsAreFronts = (both : Halves) (list : List BothChange) (i : ℕ) → i < length (states_after both list) → IsFrontState both list (get_or (states_after both list) i [])

-- A block that an entry freed is busy until that entry is acknowledged: no entry takes it before.
abbrev pub BusyUntilTold : Type 0
BusyUntilTold = (half : VolumeHalf) (list : List Change) (b entry : ℕ) → FitAllOfVolume half list → state_of half.shown.map b ≡ Busy entry → (after_volume half list).told < entry → state_of (after_volume half list).shown.map b ≡ Busy entry

-- ---- the start

-- a volume that was just mounted, with a fresh log of so many ring pages: the log's one SYNCPT stands at the start of its last page
abbrev pub fresh_halves : ℕ → Shown → Halves
fresh_halves ring shown = record {
  volume = record {
    mounted = shown.pages;
    history = [];
    taken = 0;
    told = 0;
    handed = 0;
    points = 0 ∷ [];
    known = 1;
    blocks = map fresh_block shown.pages;
    shown = shown;
    waiting = record { ring = ring; place = 4080 * (ring - 1) + 36; items = []; sync = 4080 * (ring - 1) };
    low_halted = None;
    halted = None;
  };
  log = record { durable = 0; stable = 1; points_taken = 1; start = 4080 * (ring - 1); items = point 0 ∷ []; group = []; log_halted = None };
}

abbrev pub FreshAreSound : Type 0
FreshAreSound = (ring : ℕ) (shown : Shown) → ArePages (length shown.pages) shown.pages → length shown.pages < 2 ^ 32 → AreSound (fresh_halves ring shown)
