use Rattle.jfs_dmap.proofs.Agreed.{pages-same}
use Rattle.jfs_dmap.proofs.law.pages_agree.Goals as goal

pub returns : goal.returns
returns c = pages-same
