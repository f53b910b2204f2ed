use Rattle.jfs_agree.proofs.Agreed.{sound_law}
use Rattle.jfs_agree.proofs.law.sound_maps_agree.Goals as goal

pub returns : goal.returns
returns c = sound_law
