use Rattle.jfs_tree.proofs.Neighbours.{links_both}
use Rattle.jfs_tree.proofs.Drafts.{keeps_four}
use Rattle.jfs_tree.proofs.linking.link_both.Goals as goal

pub returns-in-Ok-link_back-2-clause-links : goal.returns-in-Ok-link_back-2-clause-links
returns-in-Ok-link_back-2-clause-links g c = λ tells.
    links_both (g.F.PageForm.node c.args.form.now) (g.F.PageForm.frame c.args.form.now) (g.V.PageView.image c.args.view.now) (g.V.PageView.image c.link_on.new.view) (g.V.PageView.image c.link_back.new.view) (g.V.PageView.image c.link_on-2.new.view)
    c.args.draft.now.pages.items c.link_on.new.draft.pages.items c.link_back.new.draft.pages.items c.link_on-2.new.draft.pages.items c.link_back-2.new.draft.pages.items c.args.level.now
    (c.link_on.ensures.image tells) (c.link_back.ensures.image tells) (c.link_on-2.ensures.image tells)
    (c.in-Ok.ensures.links tells) (c.in-Ok-link_back.ensures.links tells) (c.in-Ok-link_on.ensures.links tells) (c.in-Ok-link_back-2.ensures.links tells)

pub returns-in-Ok-link_back-2-clause-drafted : goal.returns-in-Ok-link_back-2-clause-drafted
returns-in-Ok-link_back-2-clause-drafted g c =
    keeps_four c.args.draft.now.pages.items c.link_on.new.draft.pages.items c.link_back.new.draft.pages.items c.link_on-2.new.draft.pages.items c.link_back-2.new.draft.pages.items
    c.in-Ok.ensures.drafted c.in-Ok-link_back.ensures.drafted c.in-Ok-link_on.ensures.drafted c.in-Ok-link_back-2.ensures.drafted
