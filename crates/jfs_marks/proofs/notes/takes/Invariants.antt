use Rattle.std.proofs.Common.{◌≡◌, drop}
use Rattle.jfs_marks.specs.Notes.{allocates}
use Rattle.jfs_marks.proofs.notes.takes.Given as goal

abbrev pub invariant-loop-edit : goal.invariant-loop-edit
invariant-loop-edit l = allocates (drop l.edit-index l.tx) l.b ≡ allocates l.tx l.b
