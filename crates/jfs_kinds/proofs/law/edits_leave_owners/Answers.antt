use Rattle.jfs_kinds.proofs.Edits.{edit_law}
use Rattle.jfs_kinds.proofs.law.edits_leave_owners.Goals as goal

pub returns : goal.returns
returns c = edit_law
