use Rattle.jfs_mount_maps.proofs.Kept.{ArePlaced}
use Rattle.jfs_mount_maps.proofs.placed.keep_placed.Given as goal

abbrev pub invariant-loop-e : goal.invariant-loop-e
invariant-loop-e l = ArePlaced l.places l.initial.set l.set l.e
