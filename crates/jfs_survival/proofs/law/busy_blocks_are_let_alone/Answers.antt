use Rattle.jfs_survival.proofs.Busy.{free_law}
use Rattle.jfs_survival.proofs.law.busy_blocks_are_let_alone.Goals as goal

pub returns : goal.returns
returns c = free_law
