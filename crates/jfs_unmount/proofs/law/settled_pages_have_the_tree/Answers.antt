use Rattle.jfs_unmount.proofs.Settled.{settled_law}
use Rattle.jfs_unmount.proofs.law.settled_pages_have_the_tree.Goals as goal

pub returns : goal.returns
returns c = settled_law
