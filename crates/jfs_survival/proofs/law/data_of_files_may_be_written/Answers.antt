use Rattle.jfs_survival.proofs.Entry.{data_law}
use Rattle.jfs_survival.proofs.law.data_of_files_may_be_written.Goals as goal

pub returns : goal.returns
returns c = data_law
