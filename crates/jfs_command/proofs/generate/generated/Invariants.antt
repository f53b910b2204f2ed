use Rattle.jfs_command.proofs.Generating.{IsMade}
use Rattle.jfs_command.proofs.generate.generated.Given as goal

-- the scripts so far, and those that are left
abbrev pub invariant-loop-i : goal.invariant-loop-i
invariant-loop-i l = IsMade l.number l.calls l.clients l.i l.plan.items
