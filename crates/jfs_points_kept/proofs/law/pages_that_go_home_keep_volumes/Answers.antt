use Rattle.jfs_points_kept.proofs.Homes.{home_all_law, home_one_law}
use Rattle.jfs_points_kept.proofs.law.pages_that_go_home_keep_volumes.Goals as goal

pub returns-clause-all : goal.returns-clause-all
returns-clause-all c = home_all_law

pub returns-clause-one : goal.returns-clause-one
returns-clause-one c = home_one_law
