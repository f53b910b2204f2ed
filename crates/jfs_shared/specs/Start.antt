-- A volume that was just mounted.
use Rattle.std.specs.Prelude.{◌≡◌, ◌-◌, [], ℕ, None}
use Rattle.jfs_disk.specs.Image.{Image, page_of}
use Rattle.jfs_super.specs.Rules.{IsAccepted}
use Rattle.jfs_super.specs.Super.{super_of}
use Rattle.jfs_super.specs.declared.fields.Super.{Super}
use Rattle.jfs_logpages.specs.Fresh.{IsFreshLog}
use Rattle.jfs_turns.specs.Lists.{Base}
use Rattle.jfs_turns.specs.Standing.{Standing}
use Rattle.jfs_kept_history.specs.legal.specs.served.specs.halves.specs.Parts.{Parts}
use Rattle.jfs_kept_history.specs.legal.specs.served.specs.halves.specs.Log.{LogParts}
use Rattle.jfs_kept_history.specs.legal.specs.served.specs.volume_calls.specs.Together.{AreTogether}
use Rattle.jfs_kept_history.specs.legal.specs.served.specs.mounted.specs.Mount.{IsMountOf}
use Rattle.jfs_shared.specs.Base.{MountStart, base_of}
use Rattle.jfs_shared.specs.Entries.{Recorded}

-- what a mount of an image says, by whose superblock it was made, of the volume and the log that it gives
pub record IsJustMounted (tells crashes : Type 0) (s : Super) (image : Image) (volume : Parts) (log : LogParts) : Type 0 where
  pub mount : IsMountOf tells crashes s image volume log
  pub spelled : tells → super_of (page_of image 8) ≡ s
  -- the disk has so many pages, and the volume's part ends where the log begins
  pub pages : ℕ
  pub accepted : IsAccepted s pages
  pub blocks : volume.blocks ≡ s.logpxd.addr
  pub runs : volume.halted ≡ None
  pub together : AreTogether volume log
  pub fresh : tells → IsFreshLog s.logpxd.len s.uuid log.image

-- what a mount gave of both parts: the log's part has so many pages, and has had so many faults
abbrev pub start_at : Super → Parts → ℕ → ℕ → MountStart
start_at s volume pages faults = record { log = record { ring = s.logpxd.len - 2; pages = pages; faults = faults; super = [] }; pages = volume.count; room = volume.room; faults = volume.faults }

-- the image, with that
abbrev pub base_at : Super → Image → Parts → ℕ → ℕ → Base
base_at s image volume pages faults = base_of (start_at s volume pages faults) image

-- nothing has happened yet
abbrev pub StandsFresh : {V L : Type 0} → Standing V Recorded → Standing L Recorded → Base → V → L → Type 0
StandsFresh of_volume of_log base x y = of_volume x base [] 0 0 [] 0 × of_log y base [] 0 0 [] 0
