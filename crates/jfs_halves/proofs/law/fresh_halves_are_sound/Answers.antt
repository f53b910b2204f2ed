use Rattle.jfs_halves.proofs.Stepped.{fresh_sound}
use Rattle.jfs_halves.proofs.law.fresh_halves_are_sound.Goals as goal

pub returns : goal.returns
returns c = fresh_sound
