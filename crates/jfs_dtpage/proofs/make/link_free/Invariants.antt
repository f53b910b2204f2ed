use Rattle.jfs_dtpage.proofs.Empty.{Linked}
use Rattle.jfs_dtpage.proofs.make.link_free.Given as goal

abbrev pub invariant-loop-slot : goal.invariant-loop-slot
invariant-loop-slot l = Linked l.initial.bytes l.bytes l.first l.end l.slot
