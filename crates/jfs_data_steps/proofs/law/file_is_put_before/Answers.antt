use Rattle.jfs_data_steps.proofs.Files.{file_before}
use Rattle.jfs_data_steps.proofs.law.file_is_put_before.Goals as goal

pub returns : goal.returns
returns c = file_before
