use Rattle.jfs_findings_new.proofs.NewClean.{new_clean}
use Rattle.jfs_findings_new.proofs.law.new_volume_is_clean.Goals as goal

pub returns : goal.returns
returns c = new_clean
