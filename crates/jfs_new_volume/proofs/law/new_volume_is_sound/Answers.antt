use Rattle.jfs_new_volume.proofs.Agreed.{new_volume}
use Rattle.jfs_new_volume.proofs.law.new_volume_is_sound.Goals as goal

pub returns : goal.returns
returns c = new_volume
