use Rattle.jfs_written.proofs.Blocks.{writes_range}
use Rattle.jfs_written.proofs.law.range_is_written_block_by_block.Goals as goal

pub returns : goal.returns
returns c = writes_range
