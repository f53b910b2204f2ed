use Rattle.std.proofs.Common.{◌≤◌, length}
use Rattle.std.specs.List.{AllByRecursion}
use Rattle.jfs_bits.specs.Descriptor.{FitsPxd}
use Rattle.jfs_log_rows.proofs.groups.update.Given as goal

-- each run fits, and there are no more than were asked for
abbrev pub invariant-loop-i : goal.invariant-loop-i
invariant-loop-i l = AllByRecursion FitsPxd l.list × (length l.list ≤ l._i)
