-- What holds of every volume that keeps the laws.
use Rattle.std.specs.Prelude.{◌≡◌, ◌≤◌, ◌<◌, ℕ, Bool, true, false, List, [], length, take, Some}
use Rattle.jfs_ranges.specs.declared.edit.Edit.{Edit}
use Rattle.jfs_records.specs.Redo.{redone, all_of}
use Rattle.jfs_recovery.specs.Face.{Face, Pages, item, matters, IsStep, IsRedone, redo_page}
use Rattle.jfs_kinds.specs.Owner.Owner.{Still}
use Rattle.jfs_recovery.specs.Core.{Core, Step, count, image, matters_at, owner_at, AreAllowed, IsAllowed, IsLogged, after_steps}
use Rattle.jfs_recovery.specs.Core.Step.{Append}
use Rattle.jfs_recovery.specs.Sound.{IsSound, AlwaysRecovers, IsLeft, IsLogImage, window, Recovers, IsMixed, MayCount, Leaves, AllLeave}
use Rattle.jfs_recovery.specs.Lines.{ReadsEdits, LogsWell}
use Rattle.jfs_recovery.specs.Mount.{fresh, IsMounted}
use Rattle.jfs_recovery.specs.Forward.{forward_page}

-- Each list of allowed steps keeps a sound core sound.
abbrev pub StepsKeepSound : Face → Type 0
StepsKeepSound f = (core : Core) (steps : List Step) → IsSound f core → AreAllowed f core steps → IsSound f (after_steps f core steps)

-- Of a sound core, redo of each log image over whatever a crash leaves of the low part gives the image after that many entries in each page that matters then, and leaves each other page as the crash did.
abbrev pub SoundRecovers : Face → Type 0
SoundRecovers f = (core : Core) → IsSound f core → AlwaysRecovers f core

-- What was acknowledged is among the entries that redo finds, the history has only grown, and redo recovers.
pub record Survives (f : Face) (core later : Core) (low : Pages) (n : ℕ) (redone : Pages) : Type 0 where
  pub told : core.told ≤ n
  pub within : n ≤ count later
  pub grown : take (count core) later.history ≡ core.history
  pub recovers : Recovers f later low n redone

abbrev pub AcknowledgedSurvive : Face → Type 0
AcknowledgedSurvive f = (core : Core) (steps : List Step) → IsSound f core → AreAllowed f core steps → (low : Pages) (c n : ℕ) (redone : Pages) →
    IsLeft (after_steps f core steps) low → IsLogImage (after_steps f core steps) c n → IsRedone f low (window (after_steps f core steps) c n) redone → Survives f core (after_steps f core steps) low n redone

-- A volume that was just mounted is a sound core.
abbrev pub FreshAreSound : Face → Type 0
FreshAreSound f = (low image : Pages) → IsMounted f low image → ((p : ℕ) → f.is_map p ≡ true → f.IsMap image (item f image) p (image p)) → IsSound f (fresh f low image)

-- A sound core stays sound under other counts of what is durable and taken, of entries and of sync counts.
abbrev pub OtherCountsAreSound : Face → Type 0
OtherCountsAreSound f = (core : Core) → IsSound f core → (durable taken stable points : ℕ) (grouped : Bool) → MayCount core durable taken stable points →
    IsSound f (record core { durable = durable; taken = taken; grouped = grouped; points_stable = stable; points_taken = points })

-- A redo that was stopped, so that each cell of each page is what the crash left or what redo gives, is redone to the same image.
abbrev pub StoppedIsRedone : Face → Type 0
StoppedIsRedone f = (low new other again : Pages) (txs : List (List Edit)) → ((p : ℕ) → length (low p) ≡ 4096) → ((p : ℕ) → length (other p) ≡ 4096) →
    IsRedone f low txs new → IsMixed low new other → IsRedone f other txs again → (p : ℕ) → again p ≡ new p

-- On pages that matter, all lines of the entries, one after the other, give what redo gives.
abbrev pub RunsForwards : Face → Type 0
RunsForwards f = (core : Core) → IsSound f core → (low : Pages) (c n : ℕ) → IsLeft core low → IsLogImage core c n → (p : ℕ) → f.is_map p ≡ false →
    matters_at f core p n ≡ true → forward_page f p (low p) (window core c n) ≡ image core n p

-- Where the log is edits, a page is redone edit by edit: so each cell is given by the last line that covers it and has no NoRedo of the page behind it, else it is what the crash left.
abbrev pub RunsEditByEdit : Face → Type 0
RunsEditByEdit f = ReadsEdits f → (p : ℕ) (left : List ℕ) (txs : List (List Edit)) → redo_page f p left left txs ≡ redone p left left (all_of txs)

-- Bytes of a block that a crash can't lose now are there after all steps that write no data over it and make no page of it that matters, after every crash, and after redo of at least the entries that are there now.
abbrev pub SyncedStay : Face → Type 0
SyncedStay f = (core : Core) (steps : List Step) → IsSound f core → AreAllowed f core steps → (p : ℕ) (bytes : List ℕ) → (core.slots p).kept ≡ Some bytes → AllLeave f p steps →
    (low : Pages) (c n : ℕ) (redone : Pages) → IsLeft (after_steps f core steps) low → IsLogImage (after_steps f core steps) c n → IsRedone f low (window (after_steps f core steps) c n) redone → count core ≤ n →
    redone p ≡ bytes

-- No allowed step writes data over a block that isn't written in place.
abbrev pub StillStay : Face → Type 0
StillStay f = (core : Core) (s : Step) (p i : ℕ) → owner_at f core p (count core) ≡ Some (Still i) → IsAllowed f core s →
    ((tx : List Edit) (t : Pages) → s ≡ Append tx t → matters f t p ≡ false) → Leaves f p s

-- Pages of the fixed areas are the mounted ones, whatever a crash leaves.
abbrev pub FixedStay : Face → Type 0
FixedStay f = (core : Core) → IsSound f core → (low : Pages) → IsLeft core low → (p : ℕ) → f.is_map p ≡ false → f.is_fixed p ≡ true → low p ≡ core.mounted p

-- What an append looks at, edit by edit, is what it has to keep of each page.
abbrev pub EditsLogWell : Face → Type 0
EditsLogWell f = ReadsEdits f → (s : Pages) (tx : List Edit) (t : Pages) (p : ℕ) → length (s p) ≡ 4096 → f.is_map p ≡ false → IsStep f s tx t → LogsWell f s tx t p → IsLogged f s tx t p
