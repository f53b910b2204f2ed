use Rattle.jfs_disk.specs.Store.{past_in}
use Rattle.jfs_disk.proofs.Cuts.{seen_of-low, seen_of-high}
use Rattle.jfs_disk.proofs.memory.MemDiskDisk.cut.Goals as goal

pub returns-in-Ok-cut-clause-image : goal.returns-in-Ok-cut-clause-image
returns-in-Ok-cut-clause-image c =
    let store = c.args.self.store in (
      seen_of-low c.args.at (past_in store) (past_in c.in-Ok-cut.low) store.begun c.in-Ok-cut.ensures.past.0,
      seen_of-high c.args.at (past_in store) (past_in c.in-Ok-cut.high) store.begun c.in-Ok-cut.ensures.past.1,
    )
