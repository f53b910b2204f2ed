use Rattle.std.proofs.Common.{◌≡◌, ◌++◌, map, take, drop}
use Rattle.jfs_core.specs.Step.{synced}
use Rattle.jfs_core.proofs.act.sync_all.Given as goal

abbrev pub invariant-loop-slot : goal.invariant-loop-slot
invariant-loop-slot l = take l.slot-index l.slots ++ map synced (drop l.slot-index l.slots) ≡ map synced l.fn.slots
