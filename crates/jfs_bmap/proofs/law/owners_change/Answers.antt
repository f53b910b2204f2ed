use Rattle.jfs_bmap.proofs.Owners.{change-owners}
use Rattle.jfs_bmap.proofs.law.owners_change.Goals as goal

pub returns : goal.returns
returns c = change-owners
