use Rattle.jfs_findings.proofs.OneList.{one_list}
use Rattle.jfs_findings.proofs.law.findings_are_one_list.Goals as goal

pub returns : goal.returns
returns c = one_list
