use Rattle.jfs_data_steps.proofs.Setting.{puts_alone}
use Rattle.jfs_data_steps.proofs.law.data_is_put_before.Goals as goal

pub returns : goal.returns
returns c = puts_alone
