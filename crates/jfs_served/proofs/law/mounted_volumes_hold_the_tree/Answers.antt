use Rattle.jfs_served.proofs.Mounted.{mounted_law}
use Rattle.jfs_served.proofs.law.mounted_volumes_hold_the_tree.Goals as goal

pub returns : goal.returns
returns c = mounted_law
