use Rattle.jfs_map_bytes.proofs.Whole.{block_pages}
use Rattle.jfs_map_bytes.proofs.law.block_map_pages_are_there.Goals as goal

pub returns : goal.returns
returns c = block_pages
