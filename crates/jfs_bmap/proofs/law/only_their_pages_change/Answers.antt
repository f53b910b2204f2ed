use Rattle.jfs_bmap.proofs.Agreed.{only-their-pages}
use Rattle.jfs_bmap.proofs.law.only_their_pages_change.Goals as goal

pub returns : goal.returns
returns c = only-their-pages
