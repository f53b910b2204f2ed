use Rattle.std.proofs.Common.{◌≡◌, drop}
use Rattle.jfs_volume.specs.Gone.{gone_freed}
use Rattle.jfs_volume.proofs.gone.frees_gone.Given as goal

abbrev pub invariant-loop-edit : goal.invariant-loop-edit
invariant-loop-edit l = gone_freed l.edits (drop l.edit-index l.edits) ≡ gone_freed l.edits l.edits
