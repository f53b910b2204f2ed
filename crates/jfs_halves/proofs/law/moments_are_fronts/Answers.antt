use Rattle.jfs_halves.proofs.Joined.{moments}
use Rattle.jfs_halves.proofs.law.moments_are_fronts.Goals as goal

pub returns : goal.returns
returns c = moments
