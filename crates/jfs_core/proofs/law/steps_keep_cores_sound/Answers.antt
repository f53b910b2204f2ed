use Rattle.jfs_core.proofs.Steps.{sound_step}
use Rattle.jfs_core.proofs.law.steps_keep_cores_sound.Goals as goal

pub returns : goal.returns
returns c = sound_step
