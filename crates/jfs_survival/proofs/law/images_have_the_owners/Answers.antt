use Rattle.jfs_survival.proofs.Seen.{seen_law}
use Rattle.jfs_survival.proofs.law.images_have_the_owners.Goals as goal

pub returns : goal.returns
returns c = seen_law
