use Rattle.jfs_survival.proofs.Lists.{maps_law}
use Rattle.jfs_survival.proofs.law.maps_go_home_before_a_sync.Goals as goal

pub returns : goal.returns
returns c = maps_law
