use Rattle.std.specs.List.{remove}
use Rattle.jfs_dtpage.specs.Slots.{slots_at}
use Rattle.jfs_dtpage.proofs.Shifts.{Closes}
use Rattle.jfs_dtpage.proofs.table.remove_slot.Given as goal

abbrev pub invariant-loop-i : goal.invariant-loop-i
invariant-loop-i l = Closes l.at l.count (remove (slots_at l.initial.bytes l.at l.count) l.place) l.initial.bytes l.bytes l.i
