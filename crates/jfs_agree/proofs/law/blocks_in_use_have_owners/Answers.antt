use Rattle.jfs_agree.proofs.Agreed.{owned_law}
use Rattle.jfs_agree.proofs.law.blocks_in_use_have_owners.Goals as goal

pub returns : goal.returns
returns c = owned_law
