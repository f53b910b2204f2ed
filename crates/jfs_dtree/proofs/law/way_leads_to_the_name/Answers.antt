use Rattle.jfs_dtree.proofs.Replaced.{way_named}
use Rattle.jfs_dtree.proofs.law.way_leads_to_the_name.Goals as goal

pub returns : goal.returns
returns c = way_named
