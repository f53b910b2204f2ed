use Rattle.std.proofs.Common.{◌≡◌, ◌+◌, drop}
use Rattle.jfs_name.specs.Directory.{place_for}
use Rattle.jfs_plain.proofs.entries.Entries.count_before.Given as goal

abbrev pub invariant-loop-entry : goal.invariant-loop-entry
invariant-loop-entry l = (l.at ≡ l.entry-index) × (l.at + place_for l.name (drop l.entry-index l.self) ≡ place_for l.name l.self)
