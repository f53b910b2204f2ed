use Rattle.jfs_kept_volumes.proofs.Beside.{front_law}
use Rattle.jfs_kept_volumes.proofs.Besides.{beside_law}
use Rattle.jfs_kept_volumes.proofs.law.fronts_of_events_are_logs.Goals as goal

pub returns-clause-fronts : goal.returns-clause-fronts
returns-clause-fronts c = front_law

pub returns-clause-beside : goal.returns-clause-beside
returns-clause-beside c = beside_law
