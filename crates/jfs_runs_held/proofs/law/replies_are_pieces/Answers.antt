use Rattle.jfs_runs_held.proofs.Runs.{reply_law}
use Rattle.jfs_runs_held.proofs.law.replies_are_pieces.Goals as goal

pub returns : goal.returns
returns c = reply_law
