use Rattle.jfs_runs_held.proofs.Runs.{pieces_law}
use Rattle.jfs_runs_held.proofs.law.calls_and_commits_are_pieces.Goals as goal

pub returns : goal.returns
returns c = pieces_law
