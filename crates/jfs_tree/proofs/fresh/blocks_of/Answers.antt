use Rattle.std.proofs.Common.{sym, subst}
use Rattle.jfs_tree.specs.Form.{AllBelow}
use Rattle.jfs_tree.specs.Fresh.{blocks_of}
use Rattle.jfs_tree.proofs.Runs.{below_at, runs_more}
use Rattle.jfs_tree.proofs.fresh.blocks_of.Goals as goal

pub push_run-requires : goal.push_run-requires
push_run-requires c = below_at c.args.blocks c.as_slice-pxd-items.result.now c.loop-pxd.pxd-index (record { len = 0; addr = 0 }) (subst (λ ps. AllBelow c.args.blocks (blocks_of ps)) (sym c.as_slice-pxd-items.ensures) c.requires) c.loop-pxd-test.true

pub loop-pxd-preserved : goal.loop-pxd-preserved
loop-pxd-preserved c = runs_more c.as_slice-pxd-items.result.now c.loop-pxd.pxd-index (record { len = 0; addr = 0 }) c.loop-pxd.all.items c.push_run.new.all.items c.loop-pxd-test.true c.loop-pxd.invariant c.in_ok-push_run.ensures
