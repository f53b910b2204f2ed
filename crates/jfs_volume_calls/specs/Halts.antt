-- What a group and a SYNCPT change of the volume alone; and a commit that fails halts the volume, which keeps its first fault.
use Rattle.std.specs.Prelude.{◌≡◌, Option, Result, Ok, Err}
use Rattle.jfs_disk.specs.declared.disk.Fault.{Fault}
use Rattle.jfs_logpages.specs.declared.fault.LogFault.{LogFault}
use Rattle.jfs_volume.specs.crash_core.specs.Step.{halted_by}
use Rattle.jfs_volume.specs.halves.specs.Parts.{Parts}

abbrev pub CommitHalts : Option Fault → Option Fault → Result (Unit {0}) LogFault → Type 0
CommitHalts old new (Ok done) = new ≡ old
CommitHalts old new (Err why) = new ≡ halted_by why.fault old

abbrev pub GroupParts : Parts → Parts → Type 0
GroupParts old new = new ≡ record old { taken = new.taken; text = new.text; halted = new.halted }

abbrev pub PointParts : Parts → Parts → Type 0
PointParts old new = new ≡ record old { points = new.points; known = new.known; taken = new.taken; text = new.text; halted = new.halted }
