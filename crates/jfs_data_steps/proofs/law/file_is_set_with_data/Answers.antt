use Rattle.jfs_data_steps.proofs.Files.{file_law}
use Rattle.jfs_data_steps.proofs.law.file_is_set_with_data.Goals as goal

pub returns : goal.returns
returns c = file_law
