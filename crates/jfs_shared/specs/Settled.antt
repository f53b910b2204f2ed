-- Pages of a kept volume that go home, and a SYNCPT behind them.
use Rattle.std.specs.Prelude.{◌≡◌, ◌-◌, ℕ, Bool, List, Result, Ok, Err}
use Rattle.jfs_disk.specs.Crash.{last_of}
use Rattle.jfs_disk.specs.Image.{Image, page_of}
use Rattle.jfs_disk.specs.Moment.{IsResting}
use Rattle.jfs_disk.specs.declared.disk.Disk.{Ghosts}
use Rattle.jfs_disk.specs.declared.disk.Fault.{Fault}
use Rattle.jfs_super.specs.declared.fields.Super.{Super}
use Rattle.jfs_groups.specs.declared.log.SharedLog.{SharedLog}
use Rattle.jfs_kept_history.specs.legal.specs.served.specs.halves.specs.Parts.{Parts}
use Rattle.jfs_kept_history.specs.Kept.{Lasting, IsKeptSince}
use Rattle.jfs_kept_history.specs.Laws.{IsSettledSince}
use Rattle.jfs_shared.specs.Both.{Seen, AreOf, Pointed, PartlyPointed}
use Rattle.jfs_shared.specs.Entries.{Recorded}
use Rattle.jfs_shared.specs.Shared.{IsServed, IfKeepable, lasting_in, counts_in, standing, log_standing}
use Rattle.jfs_shared.specs.declared.shared.SharedVolume.{SharedVolume}

-- ---- pages go home

-- whatever history it was kept with, it is kept with
abbrev pub KeepsHistory : (tells crashes : Type 0) → Parts → Parts → Type 0
KeepsHistory tells crashes old new = tells → crashes → (s : Super) (page : ℕ → List ℕ) (start : Parts) (list : List Lasting) (points : List ℕ) → IsKeptSince s page start list points old → IsKeptSince s page start list points new

-- and it is settled with it, so that a SYNCPT may be made
abbrev pub SettlesHistory : (tells crashes : Type 0) → Parts → Parts → Type 0
SettlesHistory tells crashes old new = tells → crashes → (s : Super) (page : ℕ → List ℕ) (start : Parts) (list : List Lasting) (points : List ℕ) → IsKeptSince s page start list points old → IsSettledSince s page start list points new

-- ---- a SYNCPT

-- A volume that is served and kept is settled with all of it.
pub record IsSettledServed (s : Super) (image : Image) (is_broken_off : Bool) (list : List Recorded) (points : List ℕ) (p : Parts) : Type 0 where
  pub served : IsServed s (page_of image) is_broken_off list p
  pub settled : IsSettledSince s (page_of image) served.start (lasting_in list) (counts_in points) p
  pub ring : p.text.ring ≡ s.logpxd.len - 2
  pub blocks : p.blocks ≡ s.logpxd.addr

abbrev pub MaySettle : (tells crashes : Type 0) → Seen → {D : Type 0} → SharedVolume D → Type 0
MaySettle tells crashes n x = tells → crashes → IfKeepable n.base (λ s image. IsSettledServed s image x.is_broken_off n.list n.points x.volume)

-- both stand for something, and the volume is settled with it
abbrev pub AreSettled : {D : Type 0} (d : Ghosts D) → SharedVolume D → SharedLog D d → Type 0
AreSettled d x y = (n : Seen) × AreOf (standing d) (log_standing d) n x y × MaySettle d.tells d.tells_crashes n x

-- whatever both stand for, where the volume is settled with it
abbrev pub PointBehind : {D : Type 0} (d : Ghosts D) → SharedVolume D → SharedLog D d → SharedVolume D → SharedLog D d → Result (Unit {0}) Fault → Type 0
PointBehind d x y x' y' (Ok done) = (n : Seen) → AreOf (standing d) (log_standing d) n x y → MaySettle d.tells d.tells_crashes n x → Pointed (standing d) (log_standing d) n x' y'
PointBehind d x y x' y' (Err fault) = (n : Seen) → AreOf (standing d) (log_standing d) n x y → MaySettle d.tells d.tells_crashes n x → PartlyPointed (standing d) (log_standing d) n x' y'

-- Whatever both stood for before it, nothing of the volume's part of the disk is pending behind it.
abbrev pub RestsBehind : {D : Type 0} (d : Ghosts D) → SharedVolume D → SharedLog D d → SharedVolume D → Type 0
RestsBehind d x y x' = (n : Seen) → AreOf (standing d) (log_standing d) n x y → d.tells → d.tells_crashes → IfKeepable n.base (λ s image. IsResting (last_of x'.volume.past))

-- ---- for the prover

-- a SYNCPT leaves pages, and what a crash may leave of them
pub record LeavesPages (old new : Parts) : Type 0 where
  pub dirty : new.dirty ≡ old.dirty
  pub files : new.files ≡ old.files
  pub past : new.past ≡ old.past
