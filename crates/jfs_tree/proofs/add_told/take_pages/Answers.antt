use Rattle.jfs_tree.proofs.Runs.{allocs_more}
use Rattle.jfs_tree.proofs.add_told.take_pages.Goals as goal

pub loop-n-preserved : goal.loop-n-preserved
loop-n-preserved c = allocs_more c.args.tx.now c.loop-n.tx c.push.new.self c.args.taken.now c.loop-n.n-index 0 c.page_at.result c.loop-n.invariant c.loop-n-test.true c.page_at.ensures c.in_ok-push.ensures.ok
