use Rattle.jfs_kinds.proofs.Single.{has_owners}
use Rattle.jfs_kinds.proofs.law.blocks_have_one_owner.Goals as goal

pub returns : goal.returns
returns c = has_owners
