use Rattle.std.proofs.Common.{◌≡◌, ◌++◌, drop}
use Rattle.jfs_volume.specs.Runs.{taken_in}
use Rattle.jfs_volume.proofs.runs.taken_runs.Given as goal

abbrev pub invariant-loop-edit : goal.invariant-loop-edit
invariant-loop-edit l = l.runs ++ taken_in (drop l.edit-index l.edits) ≡ taken_in l.edits
