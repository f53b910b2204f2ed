use Rattle.std.proofs.Common.{◌≡◌, ◌++◌, drop}
use Rattle.jfs_volume.specs.Runs.{freed_in}
use Rattle.jfs_volume.proofs.runs.freed_runs.Given as goal

abbrev pub invariant-loop-edit : goal.invariant-loop-edit
invariant-loop-edit l = l.runs ++ freed_in (drop l.edit-index l.edits) ≡ freed_in l.edits
