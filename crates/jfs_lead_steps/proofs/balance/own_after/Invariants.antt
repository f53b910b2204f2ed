use Rattle.std.proofs.Common.{◌≡◌, drop}
use Rattle.jfs_lead_steps.specs.Balance.{own_after}
use Rattle.jfs_lead_steps.proofs.balance.own_after.Given as goal

abbrev pub invariant-loop-edit : goal.invariant-loop-edit
invariant-loop-edit l = own_after l.now (drop l.edit-index l.tx) ≡ own_after l.own l.tx
