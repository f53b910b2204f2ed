-- A mounted volume goes on being held, and a crash at any moment leaves a volume of its history.
use Rattle.std.specs.Prelude.{◌≡◌, ◌≤◌, ℕ, List, [], length, take}
use Rattle.jfs_disk.specs.Image.{Image}
use Rattle.jfs_disk.specs.Crash.{IsCrashImage}
use Rattle.jfs_image_volumes.specs.survival.specs.halves.specs.Entry.{Happened, edits}
use Rattle.jfs_image_volumes.specs.survival.specs.halves.specs.Half.{low_in}
use Rattle.jfs_image_volumes.specs.survival.specs.halves.specs.Change.{Enters}
use Rattle.jfs_image_volumes.specs.survival.specs.halves.specs.Both.{BothChange, Changes, Fits, FitAll}
use Rattle.jfs_image_volumes.specs.survival.specs.recovery.specs.objects.specs.Volume.{Volume}
use Rattle.jfs_image_volumes.specs.survival.specs.recovery.specs.objects.specs.Image.{volume_on}
use Rattle.jfs_image_volumes.specs.survival.specs.recovery.specs.kinds.specs.Images.{IsSameVolume}
use Rattle.jfs_image_volumes.specs.survival.specs.recovery.specs.Face.{Pages, IsRedone}
use Rattle.jfs_image_volumes.specs.survival.specs.recovery.specs.Core.{count}
use Rattle.jfs_image_volumes.specs.survival.specs.recovery.specs.Sound.{IsLogImage, window}
use Rattle.jfs_image_volumes.specs.survival.specs.Laws.{left_by}
use Rattle.jfs_image_volumes.specs.survival.specs.Lists.{ArePlain}
use Rattle.jfs_held_volumes.specs.Held.{Mount, Held, IsHeld, IsImageAt, face_at}
use Rattle.jfs_held_volumes.specs.Changes.{TakesData, with_page, HasTheSame, LeadsTo, MayChange, next, Made, leaving, after, AllMay}

-- Data in a file's own block, or in one that isn't in use, is none of an image.
abbrev pub DataLaw : Type 0
DataLaw = (m : Mount) (s : Pages) (v : Volume) (b : ℕ) (bytes : List ℕ) → IsImageAt m s v → TakesData m.readers v b → IsImageAt m s (with_page b bytes v)

-- Nor does it tell of pages that aren't in use.
abbrev pub SameLaw : Type 0
SameLaw = (m : Mount) (s : Pages) (v w : Volume) → IsImageAt m s v → HasTheSame v w → IsImageAt m s w

-- So a volume that is held is held as each such one.
abbrev pub ReplaceLaw : Type 0
ReplaceLaw = (m : Mount) (x : Held) (w : Volume) → IsHeld m x → HasTheSame x.volume w → IsHeld m (record x { volume = w })

-- ---- a change

abbrev pub ChangeLaw : Type 0
ChangeLaw = (m : Mount) (x : Held) (c : BothChange) (w : Volume) → IsHeld m x → Fits x.both c → MayChange m x c w → IsHeld m (next m x c w)

-- ---- what leaves the volume

-- An entry of which nothing is told leaves it.
abbrev pub ReplyLaw : Type 0
ReplyLaw = (m : Mount) (x : Held) (h : Happened) → IsHeld m x → Fits x.both (Changes (Enters h)) → edits h ≡ [] → LeadsTo m x h x.volume

-- So do groups, acknowledgements, dropped pages, syncs and faults, of which nothing is asked but that they fit: a commit is a list of these.
abbrev pub QuietLaw : Type 0
QuietLaw = (m : Mount) (x : Held) (list : List BothChange) → FitAll x.both list → ArePlain list → AllMay m x (leaving x.volume list)

-- ---- a run

pub record StaysHeld (m : Mount) (old new : Held) : Type 0 where
  pub held : IsHeld m new
  pub grown : count old.core ≤ count new.core
  pub volumes : (k : ℕ) → k ≤ count old.core → new.volumes k ≡ old.volumes k

abbrev pub RunLaw : Type 0
RunLaw = (m : Mount) (x : Held) (ds : List Made) → IsHeld m x → AllMay m x ds → StaysHeld m x (after m x ds)

-- ---- a crash

-- Redo finds the first n entries, all that are acknowledged among them, and what it leaves has the blocks and inodes in use, the places, the objects and the owners of the volume after these.
pub record IsFront (m : Mount) (x : Held) (n : ℕ) (redone : Pages) : Type 0 where
  pub told : x.both.volume.told ≤ n
  pub within : n ≤ length x.both.volume.history
  pub volume : IsSameVolume m.readers (x.volumes n) (volume_on m.readers m.blocks m.table m.map redone)

-- so for whatever a crash leaves of the low part, and for each log image
abbrev pub SurvivesCrashes : Mount → Held → Type 0
SurvivesCrashes m x = (low : Image) → IsCrashImage (low_in x.both.volume) low → (c n : ℕ) → IsLogImage x.core c n
    → (redone : Pages) → IsRedone (face_at m) (left_by x.core low) (window x.core c n) redone → IsFront m x n redone

-- at each moment of a run
abbrev pub CrashLaw : Type 0
CrashLaw = (m : Mount) (x : Held) (ds : List Made) → IsHeld m x → AllMay m x ds → (k : ℕ) → SurvivesCrashes m (after m x (take k ds))
