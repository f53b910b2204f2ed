use Rattle.std.proofs.Common.{◌≡◌, drop}
use Rattle.jfs_name.specs.Directory.{named}
use Rattle.jfs_plain.proofs.entries.Entries.find.Given as goal

abbrev pub invariant-loop-entry : goal.invariant-loop-entry
invariant-loop-entry l = named l.name (drop l.entry-index l.self) ≡ named l.name l.self
