use Rattle.jfs_logfmt.proofs.Once.{one_at_most}
use Rattle.jfs_logfmt.proofs.law.spells_one_at_most.Goals as goal

pub returns : goal.returns
returns c = one_at_most
