use Rattle.std.proofs.Common.{◌≡◌, ◌++◌, take, string_bytes}
use Rattle.std.specs.List.{flat_map}
use Rattle.jfs_command.specs.Check.{finding_line}
use Rattle.jfs_command.proofs.check.push_findings.Given as goal

abbrev pub invariant-loop-finding : goal.invariant-loop-finding
invariant-loop-finding l = string_bytes l.out ≡ string_bytes l.initial.out ++ flat_map finding_line (take l.finding-index l.findings)
