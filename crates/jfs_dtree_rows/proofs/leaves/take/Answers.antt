use Rattle.std.proofs.Common.{arith}
use Rattle.jfs_dtpage.proofs.Pages.{names_length}
use Rattle.jfs_dtree_rows.proofs.leaves.take.Goals as goal

pub dt_remove-requires-clause-place : goal.dt_remove-requires-clause-place
dt_remove-requires-clause-place c = let h = c.in-Ok.ensures.0 in omega (arith, h, names_length c.args.form c.args.bytes.now)
