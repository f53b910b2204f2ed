use Rattle.jfs_redo_steps.proofs.AgainOnDisk.{again}
use Rattle.jfs_redo_steps.proofs.law.pages_are_redone_again.Goals as goal

pub returns : goal.returns
returns c = again
