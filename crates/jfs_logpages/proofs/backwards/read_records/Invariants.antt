use Rattle.jfs_logpages.specs.Outcome.{IsReading}
use Rattle.jfs_logpages.proofs.backwards.read_records.Given as goal

abbrev pub invariant-loop-left : goal.invariant-loop-left
invariant-loop-left l = IsReading l.window.ring l.window.first l.blocks l.text l.left l.next l.point l.ends.items

abbrev pub decreases-loop-left : goal.decreases-loop-left
decreases-loop-left l = l.left
