use Rattle.jfs_served.proofs.Replies.{refused_law}
use Rattle.jfs_served.proofs.law.refused_calls_are_plain_steps.Goals as goal

pub returns : goal.returns
returns c = refused_law
