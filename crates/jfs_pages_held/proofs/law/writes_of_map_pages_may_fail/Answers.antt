use Rattle.jfs_pages_held.proofs.Homing.{tear_law}
use Rattle.jfs_pages_held.proofs.law.writes_of_map_pages_may_fail.Goals as goal

pub returns : goal.returns
returns c = tear_law
