use Rattle.jfs_logged.proofs.OneObject.{kinds_law}
use Rattle.jfs_logged.proofs.law.inodes_and_directories_keep_kinds.Goals as goal

pub returns : goal.returns
returns c = kinds_law
