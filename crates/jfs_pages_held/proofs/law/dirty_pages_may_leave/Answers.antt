use Rattle.jfs_pages_held.proofs.Maps.{leave_law}
use Rattle.jfs_pages_held.proofs.law.dirty_pages_may_leave.Goals as goal

pub returns : goal.returns
returns c = leave_law
