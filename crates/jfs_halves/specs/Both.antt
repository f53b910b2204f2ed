-- What calls that are lent the log change of both halves.
use Rattle.std.specs.Prelude.{◌≡◌, ◌++◌, ◌∷◌, [], true, false, List, length, None}
use Rattle.jfs_disk.specs.Crash.{DiskState}
use Rattle.jfs_disk.specs.declared.disk.Fault.{Fault}
use Rattle.jfs_core.specs.Step.{halted_by}
use Rattle.jfs_halves.specs.Half.{VolumeHalf, LogHalf, Halves, is_open, log_stopped}
use Rattle.jfs_halves.specs.Change.{Change, Enters, Takes, Tells, HandsOut, GoesHome, Tears, Drops, Writes, WriteTears, Stops, LogStops, Syncs, Points, Knows, changed as changed_volume, Fits as FitsVolume, states_of as states_of_volume}

pub data BothChange : Type 0 where
  -- the volume's half changes; what it takes goes to the log's half
  Changes : Change → BothChange
  -- the open group is written and stable; or that fails, as the volume comes to know
  GroupIsWritten : BothChange
  GroupFails : Fault → BothChange

-- what a group takes of the volume's half
abbrev pub group_taken : VolumeHalf → LogHalf → LogHalf
group_taken half log = record log { points_taken = length half.points; group = log.group ++ half.waiting.items }

abbrev pub log_changed : VolumeHalf → LogHalf → Change → LogHalf
log_changed half log Takes = group_taken half log
log_changed half log (Enters h) = log
log_changed half log (Tells n) = log
log_changed half log HandsOut = log
log_changed half log (GoesHome p) = log
log_changed half log (Tears p sectors fault) = log
log_changed half log (Drops p) = log
log_changed half log (Writes p bytes) = log
log_changed half log (WriteTears p bytes sectors fault) = log
log_changed half log (Stops fault) = log
log_changed half log (LogStops fault) = log
log_changed half log Syncs = log
log_changed half log Points = log
log_changed half log Knows = log

-- all that was taken is stable
abbrev pub group_written : VolumeHalf → LogHalf → LogHalf
group_written half log = record log { durable = half.taken; stable = log.points_taken; items = log.items ++ log.group; group = [] }

abbrev pub changed : Halves → BothChange → Halves
changed both (Changes c) = record { volume = changed_volume both.volume c; log = log_changed both.volume both.log c }
changed both GroupIsWritten = record both { log = group_written both.volume both.log }
changed both (GroupFails fault) = record { volume = log_stopped fault both.volume; log = record both.log { log_halted = halted_by fault both.log.log_halted } }

-- what the log's half asks of a change of the volume's: a group takes where none is open; acknowledged is what is durable; the volume knows of the log's fault once it is there, and of sync counts that are stable
abbrev pub FitsLog : Halves → Change → Type 0
FitsLog both Takes = is_open both ≡ false
FitsLog both (Tells n) = n ≡ both.log.durable
FitsLog both (LogStops fault) = both.log.log_halted ≡ None → ⊥
FitsLog both Knows = both.log.stable ≡ length both.volume.points
FitsLog both (Enters h) = Unit {0}
FitsLog both HandsOut = Unit {0}
FitsLog both (GoesHome p) = Unit {0}
FitsLog both (Tears p sectors fault) = Unit {0}
FitsLog both (Drops p) = Unit {0}
FitsLog both (Writes p bytes) = Unit {0}
FitsLog both (WriteTears p bytes sectors fault) = Unit {0}
FitsLog both (Stops fault) = Unit {0}
FitsLog both Syncs = Unit {0}
FitsLog both Points = Unit {0}

abbrev pub Fits : Halves → BothChange → Type 0
Fits both (Changes c) = FitsVolume both.volume c × FitsLog both c
Fits both GroupIsWritten = (is_open both ≡ true) × (both.log.log_halted ≡ None)
Fits both (GroupFails fault) = (is_open both ≡ true) × (both.log.log_halted ≡ None)

abbrev pub states_of : Halves → BothChange → List DiskState
states_of both (Changes c) = states_of_volume both.volume c
states_of both GroupIsWritten = []
states_of both (GroupFails fault) = []

-- ---- lists of changes

abbrev pub after : Halves → List BothChange → Halves
after both [] = both
after both (c ∷ cs) = after (changed both c) cs

abbrev pub FitAll : Halves → List BothChange → Type 0
FitAll both [] = Unit {0}
FitAll both (c ∷ cs) = Fits both c × FitAll (changed both c) cs

abbrev pub states_after : Halves → List BothChange → List DiskState
states_after both [] = []
states_after both (c ∷ cs) = states_of both c ++ states_after (changed both c) cs
