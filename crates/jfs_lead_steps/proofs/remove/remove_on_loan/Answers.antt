use Rattle.jfs_ranges.proofs.OnTop.{same_loan, same_rest, same_image}
use Rattle.jfs_lead_steps.proofs.remove.remove_on_loan.Goals as goal

pub returns-clause-loan : goal.returns-clause-loan
returns-clause-loan g c = same_loan (g.V.PageView.device c.args.over.now.view.now) (g.V.PageView.device c.remove_from.new.view.view.now) (g.V.PageView.image c.args.over.now.view.now) (g.V.PageView.image c.remove_from.new.view.view.now)
    c.args.over.now.view.ghost_name c.remove_from.new.view.view.ghost_name c.remove_from.ensures.device

pub returns-clause-image : goal.returns-clause-image
returns-clause-image g c = same_image (g.V.PageView.device c.args.over.now.view.now) (g.V.PageView.device c.remove_from.new.view.view.now) (g.V.PageView.image c.args.over.now.view.now) (g.V.PageView.image c.remove_from.new.view.view.now)
    c.args.over.now.view.ghost_name c.remove_from.new.view.view.ghost_name c.remove_from.ensures.device

pub returns-clause-device : goal.returns-clause-device
returns-clause-device g c = same_rest (g.V.PageView.device c.args.over.now.view.now) (g.V.PageView.device c.remove_from.new.view.view.now) (g.V.PageView.image c.args.over.now.view.now) (g.V.PageView.image c.remove_from.new.view.view.now)
    c.args.over.now.view.ghost_name c.remove_from.new.view.view.ghost_name c.remove_from.ensures.device
