use Rattle.jfs_way.proofs.object.load.Goals as goal

pub returns-in-Err-clause-fault : goal.returns-in-Err-clause-fault
returns-in-Err-clause-fault g c = c.from_view.ensures.count (g.V.PageView.faults c.args.view.now) (g.V.PageView.faults c.page.follows.lender-at-none) (rw c.in-Err.is at c.page.follows.holds-at-none.count)
