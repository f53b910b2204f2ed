use Rattle.jfs_map_rows.proofs.slow_pages.is_unused.Goals as goal

pub ctl_canonical-requires-clause-values : goal.ctl_canonical-requires-clause-values
ctl_canonical-requires-clause-values c = c.no_leaves.ensures c.args.level
