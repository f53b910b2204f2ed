use Rattle.std.proofs.Common.{◌≡◌, ◌≤◌, ◌+◌, drop}
use Rattle.jfs_steps.specs.After.{allocs_in}
use Rattle.jfs_steps.proofs.gain.allocs_in.Given as goal

abbrev pub invariant-loop-edit : goal.invariant-loop-edit
invariant-loop-edit l = (l.count ≤ l.edit-index) × (l.count + allocs_in (drop l.edit-index l.tx) ≡ allocs_in l.tx)
