use Rattle.jfs_map_rows.proofs.control.free_control.Goals as goal

pub returns : goal.returns
returns c = (_, c.ctl_canonical.ensures)
