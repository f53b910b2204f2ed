use Rattle.jfs_data_steps.proofs.Setting.{set_law}
use Rattle.jfs_data_steps.proofs.law.object_is_set_with_data.Goals as goal

pub returns : goal.returns
returns c = set_law
