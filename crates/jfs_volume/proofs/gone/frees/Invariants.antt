use Rattle.std.proofs.Common.{◌≡◌, drop}
use Rattle.jfs_halves.specs.Marks.{frees}
use Rattle.jfs_volume.proofs.gone.frees.Given as goal

abbrev pub invariant-loop-edit : goal.invariant-loop-edit
invariant-loop-edit l = frees l.b (drop l.edit-index l.edits) ≡ frees l.b l.edits
