use Rattle.jfs_held_volumes.proofs.Quiet.{reply_law}
use Rattle.jfs_held_volumes.proofs.law.entries_without_edits_leave_volumes.Goals as goal

pub returns : goal.returns
returns c = reply_law
