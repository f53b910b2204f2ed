use Rattle.jfs_disk.specs.Store.{past_in}
use Rattle.jfs_disk.proofs.Cuts.{seen_of-joined}
use Rattle.jfs_disk.proofs.memory.MemDiskDisk.join.Goals as goal

pub returns-clause-image : goal.returns-clause-image
returns-clause-image c = seen_of-joined (past_in c.args.low.store) (past_in c.args.high.store) (past_in c.join.result) c.args.high.store.begun c.join.ensures.past
