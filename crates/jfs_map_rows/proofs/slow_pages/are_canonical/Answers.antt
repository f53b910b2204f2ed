use Rattle.jfs_map_rows.proofs.slow_pages.are_canonical.Goals as goal

pub loop-k-init : goal.loop-k-init
loop-k-init c = c.no_leaves-leaves.ensures 0
