use Rattle.std.proofs.Common.{◌≡◌, ◌++◌, drop}
use Rattle.jfs_plain.proofs.entries.Entries.listed.Given as goal

abbrev pub invariant-loop-entry : goal.invariant-loop-entry
invariant-loop-entry l = l.all.items ++ drop l.entry-index l.names ≡ l.names
