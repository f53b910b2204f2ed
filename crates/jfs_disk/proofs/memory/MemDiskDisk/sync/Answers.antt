use Rattle.jfs_disk.proofs.Outcomes.{image-settled}
use Rattle.jfs_disk.specs.Store.{past_in}
use Rattle.jfs_disk.proofs.memory.MemDiskDisk.sync.Goals as goal

pub returns-clause-image : goal.returns-clause-image
returns-clause-image c = image-settled (past_in c.args.self.now.store) (past_in c.sync.new.self) c.sync.ensures.past
