use Rattle.jfs_survival.proofs.Busy.{states_law}
use Rattle.jfs_survival.proofs.law.owners_and_states_move_together.Goals as goal

pub returns : goal.returns
returns c = states_law
