use Rattle.jfs_iag.proofs.Agreed.{controls-same}
use Rattle.jfs_iag.proofs.law.control_pages_agree.Goals as goal

pub returns : goal.returns
returns c = controls-same
