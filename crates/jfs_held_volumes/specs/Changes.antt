-- What a change of the halves has to keep beside fitting, in words of the volume, and the volume after it.
use Rattle.std.specs.Prelude.{◌≡◌, ◌⊎◌, ◌<◌, ◌==◌, ℕ, true, false, nat_le, if◌then◌else◌, List, [], ◌∷◌, length}
use Rattle.jfs_image_volumes.specs.survival.specs.halves.specs.Entry.{Happened, edits}
use Rattle.jfs_image_volumes.specs.survival.specs.halves.specs.Half.{page_in, is_open}
use Rattle.jfs_image_volumes.specs.survival.specs.halves.specs.Change.{Enters, Takes, Tells, HandsOut, GoesHome, Tears, Drops, Writes, WriteTears, Stops, LogStops, Syncs, Points, Knows}
use Rattle.jfs_image_volumes.specs.survival.specs.halves.specs.Both.{BothChange, Changes, GroupIsWritten, GroupFails, Fits, changed}
use Rattle.jfs_image_volumes.specs.survival.specs.face.specs.steps.specs.bmap.specs.States.{Owned, state_of}
use Rattle.jfs_image_volumes.specs.survival.specs.recovery.specs.objects.specs.Readers.{Readers}
use Rattle.jfs_image_volumes.specs.survival.specs.recovery.specs.objects.specs.Volume.{Volume}
use Rattle.jfs_image_volumes.specs.survival.specs.recovery.specs.objects.specs.Objects.{objects}
use Rattle.jfs_image_volumes.specs.survival.specs.recovery.specs.kinds.specs.Owner.{has_data}
use Rattle.jfs_image_volumes.specs.survival.specs.recovery.specs.Core.{Step, count, matters_at, after_steps}
use Rattle.jfs_image_volumes.specs.survival.specs.recovery.specs.Core.Step.{Write, WriteFails, Append, Take, GroupWrite, Told, Home, HomeFails, LowSync, SyncPoint}
use Rattle.jfs_image_volumes.specs.survival.specs.face.specs.Places.{is_map_page}
use Rattle.jfs_image_volumes.specs.survival.specs.logged.specs.Logged.{logged_in}
use Rattle.jfs_image_volumes.specs.survival.specs.Played.{IsMapHome, MapsAreSynced, step_if}
use Rattle.jfs_image_volumes.specs.canonical_maps.specs.Images.{after_entry}
use Rattle.jfs_image_volumes.specs.Next.{MayFollow}
use Rattle.jfs_image_volumes.specs.Enters.{KeepsToItsPart}
use Rattle.jfs_held_volumes.specs.Held.{Mount, Held, face_at, newest_image}

-- ---- blocks

-- data of a regular file
abbrev pub IsFileData : Readers → Volume → ℕ → Type 0
IsFileData r v b = (n : ℕ) × (0 < has_data r (objects r v n) b)

-- data of a regular file may be written into a block: it is the file's own, or isn't in use
abbrev pub TakesData : Readers → Volume → ℕ → Type 0
TakesData r v b = (v.used b ≡ false) ⊎ IsFileData r v b

-- a block holds other bytes; the sets don't change by it
abbrev pub with_page : ℕ → List ℕ → Volume → Volume
with_page b bytes v = record v { page = λ q. if b == q then bytes else v.page q }

-- Another volume has the same sets, and the same in each page that is in use.
pub record HasTheSame (v w : Volume) : Type 0 where
  pub extents : w.extents ≡ v.extents
  pub area : (b : ℕ) → w.area b ≡ v.area b
  pub used : (b : ℕ) → w.used b ≡ v.used b
  pub in_use : (n : ℕ) → w.in_use n ≡ v.in_use n
  pub pages : (b : ℕ) → v.used b ≡ true → w.page b ≡ v.page b

-- ---- what a change has to keep

-- An entry leads from the volume now to the next one. What is in use then has an owner in the entry's block map.
pub record LeadsTo (m : Mount) (x : Held) (h : Happened) (w : Volume) : Type 0 where
  pub follows : MayFollow m.readers m.places x.volume w (edits h)
  pub keeps : KeepsToItsPart m.places x.both h
  pub owned : (b : ℕ) → w.used b ≡ true → state_of h.after.map b ≡ Owned

-- A dirty page goes home that the log keeps safe or that is a regular file's data; or its block isn't in use, and all entries are acknowledged. So a page of attributes or of a long link's target doesn't.
abbrev pub MayLeave : Mount → Held → ℕ → Type 0
MayLeave m x p = (logged_in m.readers x.volume p ≡ true) ⊎ IsFileData m.readers x.volume p ⊎ ((x.volume.used p ≡ false) × (x.both.volume.told ≡ length x.both.volume.history))

-- A whole page of a file's data is written, of which these bytes are read then; or a page of a map as it is after the acknowledged entries.
abbrev pub MayBeWritten : Mount → Held → ℕ → List ℕ → List ℕ → Volume → Type 0
MayBeWritten m x p bytes left w = ((length bytes ≡ 4096) × TakesData m.readers x.volume p × (w ≡ with_page p left x.volume)) ⊎ (IsMapHome (face_at m) x.core p bytes × HasTheSame x.volume w)

-- which volume a change may lead to
abbrev pub MayChange : Mount → Held → BothChange → Volume → Type 0
MayChange m x (Changes (Enters h)) w = LeadsTo m x h w
MayChange m x (Changes (GoesHome p)) w = MayLeave m x p × HasTheSame x.volume w
MayChange m x (Changes (Tears p sectors fault)) w = MayLeave m x p × HasTheSame x.volume w
MayChange m x (Changes (Writes p bytes)) w = MayBeWritten m x p bytes bytes w
MayChange m x (Changes (WriteTears p bytes sectors fault)) w = (left : List ℕ) × MayBeWritten m x p bytes left w
MayChange m x (Changes Points) w = MapsAreSynced (face_at m) x.core × HasTheSame x.volume w
MayChange m x (Changes Takes) w = HasTheSame x.volume w
MayChange m x (Changes (Tells n)) w = HasTheSame x.volume w
MayChange m x (Changes HandsOut) w = HasTheSame x.volume w
MayChange m x (Changes (Drops p)) w = HasTheSame x.volume w
MayChange m x (Changes (Stops fault)) w = HasTheSame x.volume w
MayChange m x (Changes (LogStops fault)) w = HasTheSame x.volume w
MayChange m x (Changes Syncs) w = HasTheSame x.volume w
MayChange m x (Changes Knows) w = HasTheSame x.volume w
MayChange m x GroupIsWritten w = HasTheSame x.volume w
MayChange m x (GroupFails fault) w = HasTheSame x.volume w

-- ---- what it leads to

-- A page goes home that matters; another one is written, as data is. A page of a map goes home, too.
abbrev pub steps_of : Mount → Held → BothChange → List Step
steps_of m x (Changes (Enters h)) = Append (edits h) (after_entry m.places (newest_image x) (edits h)) ∷ []
steps_of m x (Changes Takes) = step_if (is_open (changed x.both (Changes Takes))) Take
steps_of m x (Changes (Tells n)) = Told ∷ []
steps_of m x (Changes HandsOut) = []
steps_of m x (Changes (GoesHome p)) = if matters_at (face_at m) x.core p (count x.core) then Home p ∷ [] else Write p (page_in x.both.volume p) ∷ []
steps_of m x (Changes (Tears p sectors fault)) = if matters_at (face_at m) x.core p (count x.core) then HomeFails p sectors ∷ [] else WriteFails p (page_in x.both.volume p) sectors ∷ []
steps_of m x (Changes (Drops p)) = []
steps_of m x (Changes (Writes p bytes)) = if is_map_page m.places p then Home p ∷ [] else Write p bytes ∷ []
steps_of m x (Changes (WriteTears p bytes sectors fault)) = if is_map_page m.places p then HomeFails p sectors ∷ [] else WriteFails p bytes sectors ∷ []
steps_of m x (Changes (Stops fault)) = []
steps_of m x (Changes (LogStops fault)) = []
steps_of m x (Changes Syncs) = LowSync ∷ []
steps_of m x (Changes Points) = SyncPoint (length x.both.volume.history) ∷ []
steps_of m x (Changes Knows) = []
steps_of m x GroupIsWritten = GroupWrite ∷ []
steps_of m x (GroupFails fault) = []

-- After one entry more the volume is the one that the change leads to.
abbrev pub next : Mount → Held → BothChange → Volume → Held
next m x c w = record {
  both = changed x.both c;
  core = after_steps (face_at m) x.core (steps_of m x c);
  volume = w;
  volumes = λ k. if nat_le k (count x.core) then x.volumes k else w;
}

-- ---- a run

-- a change, and the volume after it
pub record Made : Type 0 where
  pub change : BothChange
  pub volume : Volume

-- changes that leave the volume
abbrev pub leaving : Volume → List BothChange → List Made
leaving v [] = []
leaving v (c ∷ cs) = record { change = c; volume = v } ∷ leaving v cs

abbrev pub after : Mount → Held → List Made → Held
after m x [] = x
after m x (d ∷ ds) = after m (next m x d.change d.volume) ds

-- each fits, and keeps what is asked of it
abbrev pub AllMay : Mount → Held → List Made → Type 0
AllMay m x [] = Unit {0}
AllMay m x (d ∷ ds) = Fits x.both d.change × MayChange m x d.change d.volume × AllMay m (next m x d.change d.volume) ds
