-- A volume that was just mounted, and a mount that failed.
use Rattle.std.specs.Prelude.{◌≡◌, ◌⊎◌, ◌-◌, ℕ, Bool, take, drop, Some}
use Rattle.jfs_bits.specs.Count.{Rose}
use Rattle.jfs_disk.specs.Image.{Image, page_of}
use Rattle.jfs_disk.specs.declared.disk.Disk.{Ghosts}
use Rattle.jfs_disk.specs.declared.disk.Fault.{Fault}
use Rattle.jfs_disk.specs.declared.disk.Part.TheVariants.{Whole, Low, High}
use Rattle.jfs_super.specs.Super.{super_of}
use Rattle.jfs_super.specs.Geometry.{geometry_of}
use Rattle.jfs_super.specs.declared.fields.Super.{Super}
use Rattle.jfs_super.specs.declared.fields.TheConstants.VolumeState.{MOUNTED}
use Rattle.jfs_mount_maps.specs.bmap.specs.States.{Blocks}
use Rattle.jfs_mount_maps.specs.imap.specs.Inodes.{Inodes}
use Rattle.jfs_findings.specs.meaning.specs.Image.{IsConsistentImage}
use Rattle.jfs_findings.specs.mount_rules.specs.Subject.{subject_of}
use Rattle.jfs_findings.specs.mount_rules.specs.Mount.{broken_mount}
use Rattle.jfs_mount_maps.specs.Maps.{AreAtRest, AreMapsOf}
use Rattle.jfs_mount_maps.specs.declared.found.FoundMaps.{FoundMaps}
use Rattle.jfs_mount_maps.specs.declared.found.MapsError.{MapsError}
use Rattle.jfs_mount_maps.specs.declared.found.MapsError.TheVariants as maps
use Rattle.jfs_logpages.specs.Fresh.{IsFreshLog}
use Rattle.jfs_logpages.specs.declared.log_side.LogSide.{LogSide}
use Rattle.jfs_mount_disk.specs.Begun.{IsMarked, IsPartFault}
use Rattle.jfs_mount_disk.specs.declared.ready.BeginError.{BeginError}
use Rattle.jfs_mount_disk.specs.declared.ready.BeginError.TheVariants as begins
use Rattle.jfs_volume.specs.halves.specs.Laws.{fresh_halves}
use Rattle.jfs_volume.specs.halves.specs.Log.{LogParts, LogStandsFor}
use Rattle.jfs_volume.specs.halves.specs.Parts.{Parts, Asked}
use Rattle.jfs_volume.specs.Start.{StandsFresh}
use Rattle.jfs_mounted.specs.Laws.{KeepsVolume}
use Rattle.jfs_mounted.specs.declared.mounted.MountError.{MountError}
use Rattle.jfs_mounted.specs.declared.mounted.MountError.TheVariants.{BadImage, Disk, Memory}

-- ---- at Ok

-- a log side's parts
abbrev pub log_parts : {D : Type 0} → (d : Ghosts D) → LogSide D d → LogParts
log_parts d side = record { image = d.image side.part; past = d.past side.part; last = side.last; durable = side.durable; halted = side.halted }

-- they stand for the log's half as it is at the mount, of a volume that shows these pages and maps
abbrev pub LogStandsFresh : (tells crashes : Type 0) → ℕ → Image → Blocks → Inodes → LogParts → Type 0
LogStandsFresh tells crashes ring pages map inodes log = (seen asked : Bool) → Asked seen tells → Asked asked crashes →
    LogStandsFor seen asked log (fresh_halves ring (record { pages = pages; map = map; inodes = inodes }))

-- Both halves are those of a volume that was just mounted, which shows these pages and maps.
pub record IsMountOf (tells crashes : Type 0) (s : Super) (old : Image) (volume : Parts) (log : LogParts) : Type 0 where
  pub pages : Image
  pub maps : FoundMaps
  pub fresh : StandsFresh tells crashes (s.logpxd.len - 2) pages maps.blocks maps.inodes volume
  pub log_fresh : LogStandsFresh tells crashes (s.logpxd.len - 2) pages maps.blocks maps.inodes log
  -- The pages are those before the log of the image handed in, but for page 8, whose superblock says that the volume is mounted.
  pub marked : tells → IsMarked s old pages
  pub superblock : tells → super_of (page_of pages 8) ≡ record s { state = MOUNTED }
  -- No rule of a mount is broken, and the maps are those of the image handed in, between calls.
  pub rest : AreAtRest (geometry_of s) maps
  -- the volume has them, with the places of their files' pages
  pub has_maps : (volume.map ≡ maps.blocks) × (volume.inodes ≡ maps.inodes) × (volume.limit ≡ maps.file_limit) × (volume.files ≡ maps.files)
  pub found : tells → AreMapsOf (subject_of s (page_of old)) maps
  -- A consistent image keeps its tree.
  pub keeps : tells → IsConsistentImage s (page_of old) → KeepsVolume s (page_of old) (page_of pages) maps.blocks maps.inodes

-- ---- at Err

abbrev pub refusal_of : MapsError → MountError
refusal_of (maps.BadImage bad) = BadImage bad
refusal_of (maps.Read fault) = Disk fault
refusal_of maps.Memory = Memory

abbrev pub failure_of : BeginError → MountError
failure_of (begins.Disk fault) = Disk fault
failure_of begins.Memory = Memory

-- A fault is the whole disk's, before it is cut, or a part's.
abbrev pub IsDiskFault : ℕ → ℕ → Fault → Type 0
IsDiskFault before now fault = (fault ≡ record { part = Whole; count = now }) ⊎ IsPartFault before now fault

-- the count of faults rises with a fault alone
abbrev pub IsMountCause : ℕ → ℕ → MountError → Type 0
IsMountCause before now (BadImage bad) = now ≡ before
IsMountCause before now (Disk fault) = Rose before now × IsDiskFault before now fault
IsMountCause before now Memory = now ≡ before

-- a volume is refused for the first rule that is broken; a fault and want of memory come whatever the image has
abbrev pub IsRefusal : Super → Image → MountError → Type 0
IsRefusal s old (BadImage bad) = broken_mount (subject_of s (page_of old)) ≡ Some bad
IsRefusal s old (Disk fault) = Unit {0}
IsRefusal s old Memory = Unit {0}

-- the disk wasn't cut yet: nothing was written
abbrev pub IsBeforeCut : MountError → Type 0
IsBeforeCut (BadImage bad) = Unit {0}
IsBeforeCut (Disk fault) = fault.part ≡ Whole
IsBeforeCut Memory = ⊥

-- What a crash after a failed mount leaves of the log and what lies behind it: all of it where nothing was written; a fresh log where the low part failed; one of both where memory ran out.
abbrev pub LeavesLog : Super → Image → MountError → Image → Type 0
LeavesLog s old (BadImage bad) left = left ≡ old
LeavesLog s old (Disk fault) left = (fault.part ≡ Whole → left ≡ old) × (fault.part ≡ Low → IsFreshLog s.logpxd.len s.uuid (drop s.logpxd.addr left))
LeavesLog s old Memory left = (drop s.logpxd.addr left ≡ drop s.logpxd.addr old) ⊎ IsFreshLog s.logpxd.len s.uuid (drop s.logpxd.addr left)

-- Where the log's part failed, or memory ran out, nothing of the pages before it was written.
abbrev pub LeavesUntouched : Super → Image → MountError → Image → Type 0
LeavesUntouched s old (BadImage bad) left = Unit {0}
LeavesUntouched s old (Disk fault) left = fault.part ≡ High → take s.logpxd.addr left ≡ take s.logpxd.addr old
LeavesUntouched s old Memory left = take s.logpxd.addr left ≡ take s.logpxd.addr old

-- a part of the disk failed: it had been cut
abbrev pub WasCut : MountError → Type 0
WasCut (BadImage bad) = ⊥
WasCut (Disk fault) = fault.part ≡ Whole → ⊥
WasCut Memory = ⊥

-- No rule of a mount is broken, and these maps are those of the image, between calls.
pub record FoundOn (s : Super) (old : Image) : Type 0 where
  pub maps : FoundMaps
  pub rest : AreAtRest (geometry_of s) maps
  pub are : AreMapsOf (subject_of s (page_of old)) maps
