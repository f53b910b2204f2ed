use Rattle.jfs_redo.proofs.FileData.{data_stays}
use Rattle.jfs_redo.proofs.law.redo_leaves_file_data.Goals as goal

pub returns : goal.returns
returns c = data_stays
