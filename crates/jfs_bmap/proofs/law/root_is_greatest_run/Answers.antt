use Rattle.jfs_bmap.proofs.Roots.{root-greatest}
use Rattle.jfs_bmap.proofs.law.root_is_greatest_run.Goals as goal

pub returns : goal.returns
returns c = root-greatest
