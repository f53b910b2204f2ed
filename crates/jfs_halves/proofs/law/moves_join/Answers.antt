use Rattle.jfs_halves.proofs.Joined.{join, join_both}
use Rattle.jfs_halves.proofs.law.moves_join.Goals as goal

pub returns : goal.returns
returns c = record { volume = join; both = join_both }
