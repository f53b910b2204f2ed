use Rattle.jfs_map_rows.proofs.control.find_one.Goals as goal

pub ctl_find-requires : goal.ctl_find-requires
ctl_find-requires c = (0, c.requires)
