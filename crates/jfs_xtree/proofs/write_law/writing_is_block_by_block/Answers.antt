use Rattle.jfs_xtree.proofs.Written.{writes_its_blocks}
use Rattle.jfs_xtree.proofs.write_law.writing_is_block_by_block.Goals as goal

pub returns : goal.returns
returns c = writes_its_blocks
