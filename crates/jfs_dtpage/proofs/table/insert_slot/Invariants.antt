use Rattle.std.specs.List.{insert}
use Rattle.std.proofs.Common.{◌+◌}
use Rattle.jfs_dtpage.specs.Slots.{slots_at}
use Rattle.jfs_dtpage.proofs.Shifts.{Shifts}
use Rattle.jfs_dtpage.proofs.table.insert_slot.Given as goal

abbrev pub invariant-loop-i : goal.invariant-loop-i
invariant-loop-i l = Shifts l.at (l.count + 1) (insert (slots_at l.initial.bytes l.at l.count) l.place l.slot) l.initial.bytes l.bytes l.i l.carried
