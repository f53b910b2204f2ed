-- The states of a disk in memory.
use Rattle.std.specs.Prelude.{List, [], ◌∷◌, ◌++◌}
use Rattle.jfs_disk.specs.Crash.{DiskState, settled, last_of}
use Rattle.jfs_disk.specs.Put.{state_after}
use Rattle.jfs_disk.specs.Cut.{lows_of, highs_of, joined}
use Rattle.jfs_disk.specs.Table.{state_in}
use Rattle.jfs_disk.specs.declared.past.Event.{Event}
use Rattle.jfs_disk.specs.declared.past.Event.TheVariants.{Began, Wrote, Synced, Low, High, Joined}

abbrev pub after_event : Event → List DiskState → List DiskState
after_event (Began count slots) past = state_in count slots.now ∷ []
after_event (Wrote n page fails) past = past ++ state_after fails n page.now.0 (last_of past) ∷ []
after_event Synced past = past ++ settled (last_of past) ∷ []
after_event (Low at) past = lows_of at past
after_event (High at) past = highs_of at past
after_event (Joined high) past = joined past high.now.states
