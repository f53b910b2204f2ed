use Rattle.std.proofs.Common.{inr}
use Rattle.jfs_disk.specs.Store.{past_in}
use Rattle.jfs_disk.proofs.Outcomes.{image-failed}
use Rattle.jfs_disk.proofs.memory.MemDisk.leave_trace.Goals as goal

pub returns-in-Ok-clause-image : goal.returns-in-Ok-clause-image
returns-in-Ok-clause-image c = image-failed (past_in c.args.self.now.store) (past_in c.write.new.self) c.args.n c.args.from.now.0 (inr c.in-Ok.ensures.past)
