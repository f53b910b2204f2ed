use Rattle.jfs_files.proofs.Data.{no_data}
use Rattle.jfs_files.proofs.law.no_data_leaves_the_transaction_alone.Goals as goal

pub returns : goal.returns
returns c = no_data
