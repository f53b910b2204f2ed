use Rattle.jfs_kinds.proofs.Stay.{kept_law}
use Rattle.jfs_kinds.proofs.law.owners_stay_with_counts.Goals as goal

pub returns : goal.returns
returns c = kept_law
