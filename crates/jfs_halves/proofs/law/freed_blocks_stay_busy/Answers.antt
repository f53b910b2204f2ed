use Rattle.jfs_halves.proofs.Busy.{busy_stays}
use Rattle.jfs_halves.proofs.law.freed_blocks_stay_busy.Goals as goal

pub returns : goal.returns
returns c = busy_stays
