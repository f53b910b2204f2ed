use Rattle.jfs_meaning.proofs.Free.{free_law}
use Rattle.jfs_meaning.proofs.law.free_blocks_are_unused.Goals as goal

pub returns : goal.returns
returns c = free_law
