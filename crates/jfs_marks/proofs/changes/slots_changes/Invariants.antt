use Rattle.std.proofs.Common.{◌≡◌}
use Rattle.jfs_marks.specs.Changes.{slots_changes}
use Rattle.jfs_marks.proofs.changes.slots_changes.Given as goal

abbrev pub invariant-loop-slot : goal.invariant-loop-slot
invariant-loop-slot l = l.changes ≡ slots_changes l.change.inodes.now l.change.founded l.p l.before.0 l.after.0 l.slot l.initial.changes
