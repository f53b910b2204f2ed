use Rattle.jfs_crashed.proofs.Crashed.{own_log}
use Rattle.jfs_crashed.proofs.law.own_logs_keep_off_the_maps.Goals as goal

pub returns : goal.returns
returns c = own_log
