use Rattle.std.proofs.Common.{◌≡◌, drop}
use Rattle.jfs_marks.specs.Behind.{is_taken_in}
use Rattle.jfs_marks.proofs.behind.is_taken_in.Given as goal

abbrev pub invariant-loop-edit : goal.invariant-loop-edit
invariant-loop-edit l = is_taken_in (drop l.edit-index l.edits) l.run ≡ is_taken_in l.edits l.run
