use Rattle.jfs_entered.proofs.Used.{blocks_law}
use Rattle.jfs_entered.proofs.law.blocks_are_those_after.Goals as goal

pub returns : goal.returns
returns c = blocks_law
