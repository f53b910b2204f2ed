use Rattle.std.proofs.Common.{arith}
use Rattle.jfs_logfmt.specs.Text.{runs_of}
use Rattle.jfs_logfmt.proofs.Runs.{runs_added}
use Rattle.jfs_logfmt.proofs.run.read_runs.Goals as goal

pub loop-i-preserved : goal.loop-i-preserved
loop-i-preserved c =
    runs_added c.loop-i.list c.push.new.self c.get_pxd.result c.args.body.now c.loop-i.i c.args.count (runs_of c.args.body.now 0 c.args.count) (omega arith)
    c.in_ok-push.ensures.ok c.get_pxd.ensures.value c.loop-i.invariant
