use Rattle.std.proofs.Common.{◌≡◌, ◌+◌, drop}
use Rattle.jfs_name.specs.Directory.{place_of}
use Rattle.jfs_plain.proofs.entries.Entries.count_others.Given as goal

abbrev pub invariant-loop-entry : goal.invariant-loop-entry
invariant-loop-entry l = (l.at ≡ l.entry-index) × (l.at + place_of l.name (drop l.entry-index l.self) ≡ place_of l.name l.self)
