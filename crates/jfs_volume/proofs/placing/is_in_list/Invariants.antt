use Rattle.std.proofs.Common.{◌≡◌, drop}
use Rattle.jfs_bmap.specs.States.{is_in_list}
use Rattle.jfs_volume.proofs.placing.is_in_list.Given as goal

abbrev pub invariant-loop-run : goal.invariant-loop-run
invariant-loop-run l = is_in_list (drop l.run-index l.runs) l.b ≡ is_in_list l.runs l.b
