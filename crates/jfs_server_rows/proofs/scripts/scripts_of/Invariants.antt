use Rattle.jfs_server_rows.proofs.Plans.{IsFront}
use Rattle.jfs_server_rows.proofs.scripts.scripts_of.Given as goal

-- the scripts so far
abbrev pub invariant-loop-i : goal.invariant-loop-i
invariant-loop-i l = IsFront l.i l.scripts.items
