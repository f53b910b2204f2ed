use Rattle.jfs_bmap.proofs.Agreed.{map-pages-same}
use Rattle.jfs_bmap.proofs.law.map_pages_agree.Goals as goal

pub returns : goal.returns
returns c = map-pages-same
