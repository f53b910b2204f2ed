use Rattle.jfs_findings.specs.Gains.{Gains}
use Rattle.jfs_owners.specs.Shared.{IsMarked}
use Rattle.jfs_owners.proofs.shared.find_from.Given as goal

abbrev pub invariant-loop-b : goal.invariant-loop-b
invariant-loop-b l = Gains (IsMarked l.set l.first l.b) l.initial.findings.items l.findings.items
