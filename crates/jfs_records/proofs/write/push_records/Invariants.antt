use Rattle.jfs_records.proofs.SoFar.{IsSoFar}
use Rattle.jfs_records.proofs.write.push_records.Given as goal

abbrev pub invariant-loop-r : goal.invariant-loop-r
invariant-loop-r l = IsSoFar l.fn.ring l.fn.number l.fn.at l.fn.records l.fn.into.bytes.items l.records l.into.bytes.items l.fn.into.ends.items l.into.ends.items l.back l.start l.r-index
