use Rattle.jfs_pages_held.proofs.Stay.{stay_law}
use Rattle.jfs_pages_held.proofs.law.pages_stay_as_they_were.Goals as goal

pub returns : goal.returns
returns c = stay_law
