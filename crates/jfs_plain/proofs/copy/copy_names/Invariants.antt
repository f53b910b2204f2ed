use Rattle.std.proofs.Common.{◌≡◌, ◌++◌, drop}
use Rattle.jfs_plain.proofs.copy.copy_names.Given as goal

abbrev pub invariant-loop-entry : goal.invariant-loop-entry
invariant-loop-entry l = l.same ++ drop l.entry-index l.names ≡ l.names
