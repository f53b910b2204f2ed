use Rattle.std.proofs.Common.{◌≡◌, ◌≤◌, ◌+◌, drop}
use Rattle.jfs_loss.specs.Inodes.{frees_in}
use Rattle.jfs_rename_steps.proofs.entries.frees_in.Given as goal

abbrev pub invariant-loop-edit : goal.invariant-loop-edit
invariant-loop-edit l = (l.count ≤ l.edit-index) × (l.count + frees_in (drop l.edit-index l.tx) ≡ frees_in l.tx)
