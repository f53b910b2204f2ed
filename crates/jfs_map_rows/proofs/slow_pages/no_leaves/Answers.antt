use Rattle.jfs_bmap.proofs.Levels.{is-value-unused}
use Rattle.jfs_map_rows.proofs.slow_pages.no_leaves.Goals as goal

pub returns : goal.returns
returns c level v = is-value-unused level 1024 v
