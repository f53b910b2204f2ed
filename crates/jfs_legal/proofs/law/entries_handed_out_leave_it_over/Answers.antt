use Rattle.jfs_legal.proofs.Over.{over_handed_law}
use Rattle.jfs_legal.proofs.law.entries_handed_out_leave_it_over.Goals as goal

pub returns : goal.returns
returns c = over_handed_law
