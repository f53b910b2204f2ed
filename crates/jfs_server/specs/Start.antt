-- What a server begins with.
use Rattle.std.specs.Prelude.{◌≡◌, ◌<◌, ◌^◌, ℕ, List, length}
use Rattle.atomic_table.specs.Seated.{TableId}
use Rattle.jfs_disk.specs.Image.{Image}
use Rattle.jfs_disk.specs.declared.disk.Disk.{Ghosts}
use Rattle.jfs_super.specs.declared.fields.Super.{Super}
use Rattle.jfs_groups.specs.declared.log.SharedLog.{SharedLog}
use Rattle.jfs_shared.specs.legal.specs.served.specs.mounted.specs.declared.mounted.Mounted.{Mounted}
use Rattle.jfs_shared.specs.legal.specs.served.specs.volume_calls.specs.Together.{log_parts}
use Rattle.jfs_shared.specs.Entries.{Recorded}
use Rattle.jfs_shared.specs.Start.{IsJustMounted, base_at}
use Rattle.jfs_turns.specs.Lists.{Base}
use Rattle.jfs_turns.specs.Passes.{ArePasses, AreNew}
use Rattle.jfs_turns.specs.declared.turns.Pass.{Pass}
use Rattle.jfs_server.specs.declared.served.ServedVolume.{ServedVolume}

-- the volume was mounted from this image, by this superblock, and nothing has happened since: that is the base
pub record StartsAt {D : Type 0} (d : Ghosts D) (base : Base) (m : Mounted D d) : Type 0 where
  pub super : Super
  pub image : Image
  pub mounted : IsJustMounted d.tells d.tells_crashes super image m.volume (log_parts d m.log)
  pub few : (m.volume.faults < 2 ^ 64) × (d.fault_count m.log.part < 2 ^ 64)
  pub base_is : base ≡ base_at super image m.volume (d.page_count m.log.part) (d.fault_count m.log.part)

-- There is a pass for each client, which knows no entry.
pub record IsStarted {D : Type 0} (d : Ghosts D) (base : Base) (clients : ℕ) (table : TableId) (passes : List (Pass (ServedVolume D) (SharedLog D d) Recorded)) : Type 0 where
  pub are : ArePasses table clients passes
  pub fresh : AreNew base passes
  pub many : length passes ≡ clients
