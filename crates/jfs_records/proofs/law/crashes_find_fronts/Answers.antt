use Rattle.jfs_records.proofs.Crashes.{crashes_find_fronts}
use Rattle.jfs_records.proofs.OwnPoints.{own_premise}
use Rattle.jfs_records.proofs.law.crashes_find_fronts.Goals as goal

pub returns-clause-crash : goal.returns-clause-crash
returns-clause-crash c = crashes_find_fronts

pub returns-clause-begins : goal.returns-clause-begins
returns-clause-begins c = own_premise
