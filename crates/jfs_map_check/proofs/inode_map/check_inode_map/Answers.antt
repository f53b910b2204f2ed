use Rattle.jfs_map_check.proofs.OfInodeMap.{of_inode_map}
use Rattle.jfs_map_check.proofs.inode_map.check_inode_map.Goals as goal

pub returns-in-Ok-clause-findings : goal.returns-in-Ok-clause-findings
returns-in-Ok-clause-findings g c tells super knows =
    let e = c.in_ok-totals.ensures in
    of_inode_map super (g.V.PageView.image c.args.view.now) (g.V.PageView.image c.read_control.new.view) (g.V.PageView.block_count c.args.view.now) c.args.iags c.args.used.now c.args.extents.now _ _ _
    c.args.findings.now.items c.check_iags.new.findings.items c.note_control.new.findings.items (c.in_ok-told.ensures.image tells) (c.in_ok-told.ensures.control tells) (e.totals tells) (e.findings tells) c.in-Ok.ensures knows
