use Rattle.jfs_held_calls.proofs.Calls.{call_law}
use Rattle.jfs_held_calls.proofs.law.calls_are_runs_of_changes.Goals as goal

pub returns : goal.returns
returns c = call_law
