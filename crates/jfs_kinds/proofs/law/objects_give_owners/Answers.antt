use Rattle.jfs_kinds.proofs.Stay.{same_owners}
use Rattle.jfs_kinds.proofs.law.objects_give_owners.Goals as goal

pub returns : goal.returns
returns c = same_owners
