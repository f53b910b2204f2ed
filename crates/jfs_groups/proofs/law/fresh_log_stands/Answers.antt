use Rattle.jfs_groups.proofs.Stands.{fresh}
use Rattle.jfs_groups.proofs.law.fresh_log_stands.Goals as goal

pub returns : goal.returns
returns g c = fresh g.E.HasRecords.logs g.D.Disk.tells g.D.Disk.tells_crashes
