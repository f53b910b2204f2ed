use Rattle.jfs_joined_held.proofs.Called.{called_law}
use Rattle.jfs_joined_held.proofs.law.joined_calls_keep_volumes_held.Goals as goal

pub returns : goal.returns
returns c = called_law
