use Rattle.jfs_bits.specs.declared.descriptor.Pxd.{Pxd}
use Rattle.jfs_xtree.proofs.CutTold.{run_more}
use Rattle.jfs_xtree.proofs.cutting.free_runs.Goals as goal

pub loop-run-preserved : goal.loop-run-preserved
loop-run-preserved c = let d : Pxd = record { len = 0; addr = 0 } in run_more c.args.tx.now c.loop-run.tx c.push.new.self c.args.runs.now c.loop-run.run-index d c.loop-run.invariant c.loop-run-test.true c.in_ok-push.ensures.ok
