use Rattle.jfs_served.proofs.Replies.{unchanged_law}
use Rattle.jfs_served.proofs.law.calls_that_change_nothing_are_plain_steps.Goals as goal

pub returns : goal.returns
returns c = unchanged_law
