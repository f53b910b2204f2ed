use Rattle.std.proofs.Common.{◌*◌}
use Rattle.std.specs.Prelude.{min}
use Rattle.jfs_findings.specs.Gains.{Gains}
use Rattle.jfs_owners.specs.Shared.{IsMarked}
use Rattle.jfs_owners.proofs.shared.find_marked.Given as goal

abbrev pub invariant-loop-w : goal.invariant-loop-w
invariant-loop-w l = Gains (IsMarked l.set 0 (min (32 * l.w) l.blocks)) l.initial.findings.items l.findings.items
