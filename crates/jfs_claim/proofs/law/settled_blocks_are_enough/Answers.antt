use Rattle.jfs_claim.proofs.Looks.{settled_is_enough}
use Rattle.jfs_claim.proofs.law.settled_blocks_are_enough.Goals as goal

pub returns : goal.returns
returns c = settled_is_enough
