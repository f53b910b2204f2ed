use Rattle.jfs_iag.proofs.Agreed.{iags-same}
use Rattle.jfs_iag.proofs.law.iag_pages_agree.Goals as goal

pub returns : goal.returns
returns c = iags-same
