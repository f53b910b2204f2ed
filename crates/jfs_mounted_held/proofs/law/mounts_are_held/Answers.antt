use Rattle.jfs_mounted_held.proofs.Mounted.{mounted_law}
use Rattle.jfs_mounted_held.proofs.law.mounts_are_held.Goals as goal

pub returns : goal.returns
returns c = mounted_law
