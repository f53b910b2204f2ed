use Rattle.jfs_ranges.proofs.OnTop.{same_loan, same_rest}
use Rattle.jfs_check.proofs.checking.examine_metered.Goals as goal

pub returns-clause-loan : goal.returns-clause-loan
returns-clause-loan g c =
    same_loan (g.V.PageView.device c.args.metered.now.view.now) (g.V.PageView.device c.examine.new.view.view.now) (g.V.PageView.image c.args.metered.now.view.now) (g.V.PageView.image c.examine.new.view.view.now)
    c.args.metered.now.view.ghost_name c.examine.new.view.view.ghost_name c.examine.ensures.device

pub returns-clause-device : goal.returns-clause-device
returns-clause-device g c =
    same_rest (g.V.PageView.device c.args.metered.now.view.now) (g.V.PageView.device c.examine.new.view.view.now) (g.V.PageView.image c.args.metered.now.view.now) (g.V.PageView.image c.examine.new.view.view.now)
    c.args.metered.now.view.ghost_name c.examine.new.view.view.ghost_name c.examine.ensures.device
