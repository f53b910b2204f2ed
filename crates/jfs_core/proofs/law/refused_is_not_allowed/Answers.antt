use Rattle.jfs_core.proofs.Runs.{refused_not_allowed}
use Rattle.jfs_core.proofs.law.refused_is_not_allowed.Goals as goal

pub returns : goal.returns
returns c = refused_not_allowed
