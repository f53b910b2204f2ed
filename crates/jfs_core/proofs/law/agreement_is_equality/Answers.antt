use Rattle.jfs_core.proofs.Redo.{agreement_is_equality}
use Rattle.jfs_core.proofs.law.agreement_is_equality.Goals as goal

pub returns : goal.returns
returns c = agreement_is_equality
