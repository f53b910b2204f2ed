use Rattle.jfs_bmap.specs.States.{AreReserved}
use Rattle.jfs_map_rows.proofs.slow_calls.stay_same.Given as goal

abbrev pub invariant-loop-i : goal.invariant-loop-i
invariant-loop-i l = AreReserved l.map l.held
