use Rattle.jfs_server_rows.proofs.Plans.{front_more}
use Rattle.jfs_server_rows.proofs.scripts.scripts_of.Goals as goal

pub loop-i-preserved : goal.loop-i-preserved
loop-i-preserved c =
    let e = c.in_ok-lines.ensures in
    rw c.in-Ok.ensures.items (front_more c.loop-i.i c.loop-i.scripts.items c.in_ok-lines.lines c.loop-i.invariant e.0 e.1)
