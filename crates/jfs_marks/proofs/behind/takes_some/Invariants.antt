use Rattle.std.proofs.Common.{◌≡◌, drop}
use Rattle.jfs_marks.specs.Behind.{takes_some}
use Rattle.jfs_marks.proofs.behind.takes_some.Given as goal

abbrev pub invariant-loop-edit : goal.invariant-loop-edit
invariant-loop-edit l = takes_some (drop l.edit-index l.edits) ≡ takes_some l.edits
