-- A volume that is served goes on being kept, step by step, on a disk that tells its contents and what a crash may leave.
use Rattle.std.specs.Prelude.{◌≡◌, ◌<◌, ◌+◌, ◌^◌, ◌++◌, ◌∷◌, [], ℕ, false, List, length, Option, OnOk, None, Result, Ok}
use Rattle.jfs_disk.specs.Crash.{last_of}
use Rattle.jfs_disk.specs.Image.{Image, page_of}
use Rattle.jfs_disk.specs.Moment.{IsResting}
use Rattle.jfs_disk.specs.declared.disk.Fault.{Fault}
use Rattle.jfs_super.specs.declared.fields.Super.{Super}
use Rattle.jfs_records.specs.Records.{Noted}
use Rattle.jfs_legal.specs.History.{at, GoOn}
use Rattle.jfs_legal.specs.served.specs.call.specs.Does.{Does}
use Rattle.jfs_legal.specs.served.specs.call.specs.DoesLent.{Asking}
use Rattle.jfs_legal.specs.served.specs.call.specs.Noted.{noted_by}
use Rattle.jfs_legal.specs.served.specs.call.specs.declared.outcome.Outcome.{Outcome}
use Rattle.jfs_legal.specs.served.specs.call.specs.declared.outcome.Outcome.TheVariants.{Replied, NeedsLog, NoMemory}
use Rattle.jfs_legal.specs.served.specs.plain.specs.Limits.{FitsCall}
use Rattle.jfs_legal.specs.served.specs.volume.specs.Join.{entry_with}
use Rattle.jfs_legal.specs.served.specs.crash_core.specs.Step.{halted_by}
use Rattle.jfs_legal.specs.served.specs.halves.specs.Change.{MayPoint, Takes, HandsOut, Points, Knows}
use Rattle.jfs_legal.specs.served.specs.halves.specs.Log.{LogParts}
use Rattle.jfs_legal.specs.served.specs.halves.specs.Moves.{Moves}
use Rattle.jfs_legal.specs.served.specs.halves.specs.Parts.{Parts, OfEachHalf}
use Rattle.jfs_legal.specs.served.specs.mounted.specs.Mount.{IsMountOf}
use Rattle.jfs_legal.specs.served.specs.volume.specs.MapsHome.{MapsHome, KeepsMemory, KeepsPlaces, with_written}
use Rattle.jfs_legal.specs.served.specs.volume.specs.Room.{IsWithinRoom}
use Rattle.jfs_legal.specs.served.specs.volume.specs.Settle.{AllHome, SyncIs, with_point}
use Rattle.jfs_legal.specs.served.specs.volume.specs.Settles.{Settles, HomesAlone, HaltsAt}
use Rattle.jfs_legal.specs.served.specs.volume.specs.Told.{IsTold}
use Rattle.jfs_legal.specs.served.specs.volume.specs.pages.specs.Dirty.{dirty_of}
use Rattle.jfs_legal.specs.served.specs.volume_calls.specs.Written.{KeepsPages}
use Rattle.jfs_legal.specs.served.specs.Holds.{HoldsTree}
use Rattle.jfs_legal.specs.served.specs.shown.specs.meaning.specs.Image as meaning
use Rattle.jfs_points_kept.specs.Kept.{IsSettledIn}
use Rattle.jfs_mounted_maps.specs.mounted_held.specs.mounted_places.specs.Mounted.{mount_of}
use Rattle.jfs_kept_history.specs.Keepable.{IsKeepableImage}
use Rattle.jfs_kept_history.specs.Kept.{Lasting, timed_in, IsKeptSince}

-- ---- the mount

-- A volume that was just mounted from a keepable image.
abbrev pub BeginLaw : (tells crashes : Type 0) → Type 0
BeginLaw tells crashes = tells → crashes → (s : Super) (old : Image) (p : Parts) (log : LogParts) → IsMountOf tells crashes s old p log → IsKeepableImage s old → IsKeptSince s (page_of old) p [] [] p

-- ---- groups and acknowledgements

-- A group takes what waits;
abbrev pub TakenLaw : (tells crashes : Type 0) → Type 0
TakenLaw tells crashes = tells → crashes → (s : Super) (page : ℕ → List ℕ) (start : Parts) (list : List Lasting) (points : List ℕ) (old new : Parts) → IsKeptSince s page start list points old
    → OfEachHalf tells crashes old (λ seen asked half. Moves seen asked old new half (Takes ∷ [])) → IsWithinRoom old.text.ring old.text.sync old.text.place (length old.text.bytes) → new ≡ record old { taken = new.taken; text = new.text } → IsKeptSince s page start list points new

-- the first n entries are acknowledged;
abbrev pub ToldLaw : (tells crashes : Type 0) → Type 0
ToldLaw tells crashes = tells → crashes → (s : Super) (page : ℕ → List ℕ) (start : Parts) (list : List Lasting) (points : List ℕ) (n : ℕ) (old new : Parts) → IsKeptSince s page start list points old → HoldsTree (meaning.volume_of s page).area s.logpxd.len old
    → OfEachHalf tells crashes old (λ seen asked half. IsTold seen asked n old new half) → Settles old new → KeepsPages tells old new → new.halted ≡ old.halted → IsKeptSince s page start list points new

-- the volume halts for the log's fault;
abbrev pub HaltedLaw : Type 0
HaltedLaw = (s : Super) (page : ℕ → List ℕ) (start : Parts) (list : List Lasting) (points : List ℕ) (fault : Fault) (old new : Parts) → IsKeptSince s page start list points old → new ≡ record old { halted = halted_by fault old.halted } → IsKeptSince s page start list points new

-- and all entries are handed out.
abbrev pub HandedLaw : (tells crashes : Type 0) → Type 0
HandedLaw tells crashes = tells → crashes → (s : Super) (page : ℕ → List ℕ) (start : Parts) (list : List Lasting) (points : List ℕ) (old new : Parts) → IsKeptSince s page start list points old
    → OfEachHalf tells crashes old (λ seen asked half. Moves seen asked old new half (HandsOut ∷ [])) → new ≡ record old { entries = [] } → IsKeptSince s page start list points new

-- ---- syncpoints

-- All entries are acknowledged, no page waits to go home or to be synced, and nothing of its part of the disk is pending.
pub record IsSettledSince (s : Super) (page : ℕ → List ℕ) (start : Parts) (list : List Lasting) (points : List ℕ) (p : Parts) : Type 0 where
  pub since : IsKeptSince s page start list points p
  pub settled : IsSettledIn (mount_of s since.low) since.keeper
  pub rests : IsResting (last_of p.past)

abbrev pub HomeAllLaw : (tells crashes : Type 0) → Type 0
HomeAllLaw tells crashes = tells → crashes → (s : Super) (page : ℕ → List ℕ) (start : Parts) (list : List Lasting) (points : List ℕ) (old new : Parts) (result : Result (Unit {0}) Fault) → IsKeptSince s page start list points old → old.told ≡ old.appended
    → OfEachHalf tells crashes old (λ seen asked half. AllHome seen asked old new half result) → HomesAlone tells old new → HaltsAt old.halted new.halted result → IsKeptSince s page start list points new

abbrev pub HomeMapsLaw : (tells crashes : Type 0) → Type 0
HomeMapsLaw tells crashes = tells → crashes → (s : Super) (page : ℕ → List ℕ) (start : Parts) (list : List Lasting) (points : List ℕ) (old new : Parts) (result : Result (Unit {0}) Fault) → IsKeptSince s page start list points old → old.told ≡ old.appended → old.halted ≡ None
    → OfEachHalf tells crashes old (λ seen asked half. MapsHome seen asked old new half result) → KeepsMemory old new → KeepsPlaces old new → OnOk result (new.files ≡ with_written old.files) → HaltsAt old.halted new.halted result → IsKeptSince s page start list points new

abbrev pub SyncLaw : (tells crashes : Type 0) → Type 0
SyncLaw tells crashes = tells → crashes → (s : Super) (page : ℕ → List ℕ) (start : Parts) (list : List Lasting) (points : List ℕ) (old new : Parts) (result : Result (Unit {0}) Fault) → IsKeptSince s page start list points old
    → OfEachHalf tells crashes old (λ seen asked half. SyncIs seen asked old new half result) → HomesAlone tells old new → HaltsAt old.halted new.halted result → IsKeptSince s page start list points new

-- A sync behind them settles the volume.
abbrev pub SettledLaw : (tells crashes : Type 0) → Type 0
SettledLaw tells crashes = tells → crashes → (s : Super) (page : ℕ → List ℕ) (start : Parts) (list : List Lasting) (points : List ℕ) (old new : Parts) → IsKeptSince s page start list points old → old.told ≡ old.appended → ((p : ℕ) → dirty_of old.dirty p ≡ None)
    → old.files.blocks.stale ≡ false → old.files.inodes.stale ≡ false → old.halted ≡ None
    → OfEachHalf tells crashes old (λ seen asked half. SyncIs seen asked old new half (Ok tt)) → HomesAlone tells old new → HaltsAt old.halted new.halted (Ok tt) → IsSettledSince s page start list points new

-- A SYNCPT is made, and taken at once; and then all of them are known to be stable.
abbrev pub PointLaw : (tells crashes : Type 0) → Type 0
PointLaw tells crashes = tells → crashes → (s : Super) (page : ℕ → List ℕ) (start : Parts) (list : List Lasting) (points : List ℕ) (old new : Parts) → IsSettledSince s page start list points old → old.text.bytes ≡ []
    → OfEachHalf tells crashes old (λ seen asked half. MayPoint half → Moves seen asked old new half (Points ∷ Takes ∷ [])) → new ≡ with_point old → IsKeptSince s page start list (points ++ length list ∷ []) new

abbrev pub KnowLaw : (tells crashes : Type 0) → Type 0
KnowLaw tells crashes = tells → crashes → (s : Super) (page : ℕ → List ℕ) (start : Parts) (list : List Lasting) (points : List ℕ) (old new : Parts) → IsKeptSince s page start list points old
    → OfEachHalf tells crashes old (λ seen asked half. Moves seen asked old new half (Knows ∷ [])) → new ≡ record old { known = old.points } → IsKeptSince s page start list points new

-- ---- calls

-- With its entry, which has so much in the log, the history has one more; without one it has what it had.
abbrev pub KeptBy : (s : Super) (page : ℕ → List ℕ) (start : Parts) → List Lasting → List ℕ → (a : Asking) → Parts → Option (List Noted) → Outcome → Type 0
KeptBy s page start list points a new noted (Replied reply number waits) = IsKeptSince s page start (list ++ record { timed = at a.now (entry_with a.caller.client a.caller.line a.request reply); noted = noted } ∷ []) points new
KeptBy s page start list points a new noted NeedsLog = IsKeptSince s page start list points new
KeptBy s page start list points a new noted NoMemory = IsKeptSince s page start list points new

-- So it is with a call within the limits, in each of its outcomes, of a volume that serves a legal history, where its entry has a number of 32 bits.
abbrev pub CallLaw : (tells crashes : Type 0) → Type 0
CallLaw tells crashes = tells → crashes → (s : Super) (page : ℕ → List ℕ) (start : Parts) (list : List Lasting) (points : List ℕ) (a : Asking) (old new : Parts) (outcome : Outcome)
    → IsKeptSince s page start list points old → GoOn (meaning.volume_of s page).area s.logpxd.len start (timed_in list) old → FitsCall a.request.call → old.appended + 1 < 2 ^ 32
    → (d : Does tells crashes a.caller a.request a.now old new outcome) → KeptBy s page start list points a new (noted_by tells crashes a.caller a.request a.now old new outcome d) outcome
