-- What is left of the inodes so far was found.
use Rattle.jfs_link_check.proofs.All.{LeavesBelow}
use Rattle.jfs_link_check.proofs.links.check_links.Given as goal

abbrev pub invariant-loop-n : goal.invariant-loop-n
invariant-loop-n l = record { found : LeavesBelow l.names l.places l.n l.initial.findings.items l.findings.items }
