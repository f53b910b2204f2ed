-- A served history, of a volume that is kept for a redo.
use Rattle.std.specs.Prelude.{◌≡◌, ◌≤◌, ◌∷◌, ℕ, List, length, map, take, if◌then◌else◌, Option, Some, None}
use Rattle.jfs_super.specs.Rules.{blocks_of}
use Rattle.jfs_super.specs.Super.{super_of}
use Rattle.jfs_super.specs.declared.fields.Super.{Super}
use Rattle.jfs_super.specs.declared.fields.TheConstants.VolumeState.{MOUNTED}
use Rattle.jfs_legal.specs.served.specs.halves.specs.Entry.{Happened, entry_of}
use Rattle.jfs_legal.specs.served.specs.halves.specs.Parts.{Parts}
use Rattle.jfs_legal.specs.served.specs.Holds.{blocks_at, volume_at}
use Rattle.jfs_legal.specs.served.specs.Legal.{Timed, IsLegal}
use Rattle.jfs_legal.specs.served.specs.shown.specs.kinds.specs.Images.{IsSameVolume}
use Rattle.jfs_legal.specs.served.specs.shown.specs.meaning.specs.Consistent.{IsConsistent}
use Rattle.jfs_legal.specs.served.specs.shown.specs.meaning.specs.Image as meaning
use Rattle.jfs_legal.specs.served.specs.shown.specs.meaning.specs.Readers.{readers}
use Rattle.jfs_legal.specs.served.specs.shown.specs.objects.specs.Volume.{Volume}
use Rattle.jfs_records.specs.Records.{Noted}
use Rattle.jfs_points_kept.specs.kept_volumes.specs.Kept.{IsKept}
use Rattle.jfs_points_kept.specs.kept_volumes.specs.Keeper.{Keeper}
use Rattle.jfs_mounted_maps.specs.mounted_held.specs.mounted_places.specs.held.specs.survival.specs.recovery.specs.Face.{Pages}
use Rattle.jfs_mounted_maps.specs.mounted_held.specs.mounted_places.specs.Mounted.{mount_of}

-- ---- entries

-- an entry with its moment, and what it has in the log
pub record Lasting : Type 0 where
  pub timed : Timed
  pub noted : Option (List Noted)

abbrev pub noted_of : Happened → Option (List Noted)
noted_of h = if h.logs then Some h.noted else None

abbrev pub lasting : Happened → Lasting
lasting h = record { timed = record { entry = entry_of h; now = h.now }; noted = noted_of h }

abbrev pub noted_in : Lasting → Option (List Noted)
noted_in e = e.noted

abbrev pub timed_in : List Lasting → List Timed
timed_in list = map (λ (e : Lasting). e.timed) list

-- ---- the volume after them

-- Some parts hold this volume after a legal history, by all that the log keeps safe: its sets, its objects, and who owns each block. It has the superblock's blocks, and is consistent.
pub record Reaches (s : Super) (page : ℕ → List ℕ) (start : Parts) (es : List Timed) (v : Volume) : Type 0 where
  pub last : Parts
  pub legal : IsLegal (meaning.volume_of s page).area s.logpxd.len start es last
  pub blocks : blocks_at last ≡ blocks_of s
  pub same : IsSameVolume (readers (blocks_of s)) v (volume_at (meaning.volume_of s page).area last)
  pub consistent : IsConsistent (readers (blocks_of s)) (volume_at (meaning.volume_of s page).area last)

-- ---- all of it

-- Since it was mounted, in state 1, a volume has had these entries and these sync counts. What keeps it has them too, and the volume after the first k entries, for each k.
pub record IsKeptSince (s : Super) (page : ℕ → List ℕ) (start : Parts) (list : List Lasting) (points : List ℕ) (p : Parts) : Type 0 where
  pub low : Pages
  pub keeper : Keeper
  pub superblock : super_of (keeper.core.mounted 8) ≡ record s { state = MOUNTED }
  pub kept : IsKept (mount_of s low) (meaning.volume_of s page).area p keeper
  pub history : map lasting keeper.both.volume.history ≡ list
  pub points_are : keeper.both.volume.points ≡ 0 ∷ points
  pub reached : (k : ℕ) → k ≤ length list → Reaches s page start (take k (timed_in list)) (keeper.volumes k)
