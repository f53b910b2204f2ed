use Rattle.jfs_room.proofs.Blocks.{runs_are}
use Rattle.jfs_room.proofs.law.runs_are_free_once_settled.Goals as goal

pub returns : goal.returns
returns c = runs_are
