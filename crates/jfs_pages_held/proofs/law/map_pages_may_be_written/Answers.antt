use Rattle.jfs_pages_held.proofs.Homing.{homing_law}
use Rattle.jfs_pages_held.proofs.law.map_pages_may_be_written.Goals as goal

pub returns : goal.returns
returns c = homing_law
