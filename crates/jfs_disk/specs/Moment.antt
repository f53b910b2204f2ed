-- Moments, and a disk with nothing pending.
use Rattle.std.specs.Prelude.{◌≡◌, ◌<◌, ◌-◌, ℕ, List, length}
use Rattle.jfs_disk.specs.Image.{Image, ArePages}
use Rattle.jfs_disk.specs.Crash.{DiskState, IsCrashImage, seen_of, last_of, settled}

-- the moment now
abbrev pub now_of : List DiskState → ℕ
now_of past = length past - 1

-- nothing is pending
abbrev pub IsResting : DiskState → Type 0
IsResting state = state ≡ settled state

-- what the laws of a disk that tells all say of it now
pub record IsLawful (count : ℕ) (image : Image) (past : List DiskState) : Type 0 where
  pub pages : ArePages count image
  pub now : image ≡ seen_of (last_of past)
  pub crash : IsCrashImage (last_of past) image
  pub state : 0 < length past
