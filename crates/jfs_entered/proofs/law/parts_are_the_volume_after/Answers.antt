use Rattle.jfs_entered.proofs.Joined.{volume_law}
use Rattle.jfs_entered.proofs.law.parts_are_the_volume_after.Goals as goal

pub returns : goal.returns
returns c = volume_law
