-- A run of a mounted volume, piece by piece.
use Rattle.std.specs.Bool.{⊤}
use Rattle.std.specs.Prelude.{◌≡◌, ◌∷◌, [], ℕ, Bool, true, List, take}
use Rattle.jfs_disk.specs.Image.{Image, page_of}
use Rattle.jfs_super.specs.declared.fields.Super.{Super}
use Rattle.jfs_mounted_held.specs.shown.specs.meaning.specs.Image as meaning
use Rattle.jfs_commits_held.specs.volume_calls.specs.halves.specs.Change.{Enters}
use Rattle.jfs_commits_held.specs.volume_calls.specs.halves.specs.Both.{Changes}
use Rattle.jfs_commits_held.specs.volume_calls.specs.halves.specs.Entry.{Happened, edits}
use Rattle.jfs_commits_held.specs.volume_calls.specs.halves.specs.Half.{Halves}
use Rattle.jfs_commits_held.specs.volume_calls.specs.halves.specs.Log.{LogParts}
use Rattle.jfs_commits_held.specs.volume_calls.specs.halves.specs.Moves.{Moves}
use Rattle.jfs_commits_held.specs.volume_calls.specs.halves.specs.Parts.{Parts}
use Rattle.jfs_commits_held.specs.volume_calls.specs.volume.specs.data_steps.specs.declared.pages.DataPage.{DataPage}
use Rattle.jfs_commits_held.specs.volume_calls.specs.volume.specs.data_steps.specs.objects.specs.Volume.{Volume}
use Rattle.jfs_mounted_held.specs.mounted.specs.Mount.{IsMountOf}
use Rattle.jfs_commits_held.specs.joined_held.specs.held.specs.survival.specs.recovery.specs.Core.{Core}
use Rattle.jfs_commits_held.specs.joined_held.specs.held.specs.Held.{Mount, Held}
use Rattle.jfs_commits_held.specs.joined_held.specs.held.specs.Changes.{Made, leaving, after, AllMay}
use Rattle.jfs_commits_held.specs.joined_held.specs.held.specs.Laws.{SurvivesCrashes}
use Rattle.jfs_commits_held.specs.joined_held.specs.held_calls.specs.Calls.{made_by}
use Rattle.jfs_commits_held.specs.joined_held.specs.Held.{volume_at, held_at, IsHeldAs}
use Rattle.jfs_commits_held.specs.joined_held.specs.Called.{IsRunOfCall}
use Rattle.jfs_commits_held.specs.Committed.{IsRunOfCommit}
use Rattle.jfs_mounted_held.specs.mounted_places.specs.Mounted.{mount_of}
use Rattle.jfs_mounted_held.specs.Mounted.{low_of, from_mount, IsSoundMount}

-- the parts of a volume, and what holds it
pub record Point : Type 0 where
  pub parts : Parts
  pub both : Halves
  pub core : Core
  pub volumes : ℕ → Volume

abbrev pub held_in : (ℕ → ℕ) → Point → Held
held_in area x = held_at x.both x.core x.volumes area x.parts

-- after changes, and with these parts then
abbrev pub point_after : Mount → (ℕ → ℕ) → Point → List Made → Parts → Point
point_after m area x ds new = record { parts = new; both = (after m (held_in area x) ds).both; core = (after m (held_in area x) ds).core; volumes = (after m (held_in area x) ds).volumes }

-- it is held
abbrev pub IsHeldIn : Mount → (ℕ → ℕ) → Point → Type 0
IsHeldIn m area x = IsHeldAs m area x.parts x.both x.core x.volumes

-- A piece of a run is some changes that may be made, one after the other; and the parts hold the volume after them.
pub record IsPiece (m : Mount) (area : ℕ → ℕ) (x : Point) (ds : List Made) (new : Parts) : Type 0 where
  pub may : AllMay m (held_in area x) ds
  pub held : IsHeldIn m area (point_after m area x ds new)

-- pieces, one after the other
pub data IsRun (m : Mount) (area : ℕ → ℕ) (start : Point) : Point → Type 0 where
  starts : IsRun m area start start
  goes_on : (x : Point) (ds : List Made) (new : Parts) → IsRun m area start x → IsPiece m area x ds new → IsRun m area start (point_after m area x ds new)

-- ---- pieces

pub record PiecesLaw : Type 0 where
  pub calls : (m : Mount) (area : ℕ → ℕ) (x : Point) (new : Parts) (put : List DataPage) (h : Happened) (w : Volume) → IsRunOfCall m area x.parts new x.both x.core x.volumes put h w → IsPiece m area x (made_by (volume_at area x.parts) put h w) new
  pub commits : (m : Mount) (area : ℕ → ℕ) (x : Point) (new : Parts) → (run : IsRunOfCommit m area x.parts new x.both x.core x.volumes) → IsPiece m area x (leaving (volume_at area x.parts) run.list) new

-- A reply joins, whose entry has no edits: the parts show what they did.
pub record Replies (asked : Bool) (x : Point) (new : Parts) (h : Happened) : Type 0 where
  pub none : edits h ≡ []
  pub moves : Moves true asked x.parts new x.both.volume (Enters h ∷ [])
  pub view : new.view ≡ x.parts.view
  pub map : new.map ≡ x.parts.map
  pub inodes : new.inodes ≡ x.parts.inodes

abbrev pub ReplyLaw : Type 0
ReplyLaw = (m : Mount) (area : ℕ → ℕ) (asked : Bool) (x : Point) (new : Parts) (h : Happened) → IsHeldIn m area x → Replies asked x new h → IsPiece m area x (leaving (volume_at area x.parts) (Changes (Enters h) ∷ [])) new

-- ---- a run

-- what a mount leaves
abbrev pub start_of : (s : Super) (old : Image) (p : Parts) (log : LogParts) → IsMountOf ⊤ ⊥ s old p log → Point
start_of s old p log m = record { parts = p; both = (from_mount s old m).both; core = (from_mount s old m).core; volumes = (from_mount s old m).volumes }

-- A crash at any moment of a piece behind a run from a mount on.
abbrev pub CrashLaw : Type 0
CrashLaw = (s : Super) (count : ℕ) (old : Image) (p : Parts) (log : LogParts) → (mount : IsMountOf ⊤ ⊥ s old p log) → IsSoundMount s count old mount.pages
    → (x : Point) (ds : List Made) (new : Parts) → IsRun (mount_of s (low_of mount.pages)) (meaning.volume_of s (page_of old)).area (start_of s old p log mount) x
    → IsPiece (mount_of s (low_of mount.pages)) (meaning.volume_of s (page_of old)).area x ds new → (k : ℕ)
    → SurvivesCrashes (mount_of s (low_of mount.pages)) (after (mount_of s (low_of mount.pages)) (held_in (meaning.volume_of s (page_of old)).area x) (take k ds))
