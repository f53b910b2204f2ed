use Rattle.jfs_records.proofs.ReadFronts.{fronts_are_read}
use Rattle.jfs_records.proofs.law.fronts_are_read.Goals as goal

pub returns : goal.returns
returns c = fronts_are_read
