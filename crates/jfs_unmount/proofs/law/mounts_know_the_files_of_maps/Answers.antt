use Rattle.jfs_unmount.proofs.Known.{mount_law}
use Rattle.jfs_unmount.proofs.law.mounts_know_the_files_of_maps.Goals as goal

pub returns : goal.returns
returns c = mount_law
