-- A mounted volume with its log, between its mount and the end of its run.
use Rattle.std.specs.Prelude.{◌≡◌, ◌⊎◌, ℕ, None}
use Rattle.jfs_bits.specs.Count.{Rose}
use Rattle.jfs_disk.specs.declared.disk.Disk.{Ghosts}
use Rattle.jfs_logpages.specs.declared.log_side.LogSide.{LogSide}
use Rattle.jfs_server.specs.groups.specs.Start.{Grows}
use Rattle.jfs_server.specs.shared.specs.legal.specs.served.specs.volume_calls.specs.Together.{log_parts}
use Rattle.jfs_server.specs.shared.specs.legal.specs.served.specs.halves.specs.Log.{LogParts}
use Rattle.jfs_server.specs.shared.specs.legal.specs.served.specs.halves.specs.Parts.{Parts}

-- a volume with its log, whose part has had so many faults and has so many pages
pub record State : Type 0 where
  pub volume : Parts
  pub log : LogParts
  pub high : ℕ
  pub pages : ℕ

abbrev pub state : {D : Type 0} → (d : Ghosts D) → Parts → LogSide D d → State
state d volume side = record { volume = volume; log = log_parts d side; high = d.fault_count side.part; pages = d.page_count side.part }

-- a count of one of the parts rose
abbrev pub PartRose : State → State → Type 0
PartRose old new = Rose old.volume.faults new.volume.faults ⊎ Rose old.high new.high

-- Both parts are as large as before, and may be joined again; of each some calls may have failed.
pub record Keeps (old new : State) : Type 0 where
  pub count : new.volume.count ≡ old.volume.count
  pub room : new.volume.room ≡ old.volume.room
  pub pages : new.pages ≡ old.pages
  pub low : Grows old.volume.faults new.volume.faults
  pub high : Grows old.high new.high

-- so from a volume that ran, which runs still, unless a call failed
pub record Since (old new : State) : Type 0 where
  pub keeps : Keeps old new
  pub halted : (new.volume.halted ≡ None) ⊎ PartRose old new
