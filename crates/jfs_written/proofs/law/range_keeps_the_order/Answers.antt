use Rattle.jfs_written.proofs.Each.{rises_still, begins_still, is_good_still}
use Rattle.jfs_written.proofs.law.range_keeps_the_order.Goals as goal

pub returns-clause-rises : goal.returns-clause-rises
returns-clause-rises c = rises_still

pub returns-clause-begins : goal.returns-clause-begins
returns-clause-begins c = begins_still

pub returns-clause-good : goal.returns-clause-good
returns-clause-good c = is_good_still
