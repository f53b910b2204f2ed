use Rattle.jfs_data_steps.proofs.Putting.{others_law}
use Rattle.jfs_data_steps.proofs.law.other_blocks_stay.Goals as goal

pub returns : goal.returns
returns c = others_law
