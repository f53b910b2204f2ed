use Rattle.jfs_mounted_pages.proofs.Mounted.{mounted_law}
use Rattle.jfs_mounted_pages.proofs.law.mounts_keep_pages.Goals as goal

pub returns : goal.returns
returns c = mounted_law
