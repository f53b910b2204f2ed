use Rattle.jfs_legal.proofs.Going.{handed_law}
use Rattle.jfs_legal.proofs.law.entries_handed_out_leave_it_legal.Goals as goal

pub returns : goal.returns
returns c = handed_law
