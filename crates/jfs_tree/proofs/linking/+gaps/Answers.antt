use Rattle.jfs_tree.proofs.Neighbours.{links_below, links_twice}
use Rattle.jfs_tree.proofs.linking.+gaps.Goals as goal

pub gaps_below-returns-in-Ok-clause-links : goal.gaps_below-returns-in-Ok-clause-links
gaps_below-returns-in-Ok-clause-links g t c = λ tells.
    links_below (g.F.PageForm.node c.args.form.now) (g.F.PageForm.frame c.args.form.now) (g.V.PageView.image c.args.view.now) (g.V.PageView.image c.beside_below.new.view) c.args.draft.now.pages.items c.close_gaps.new.draft.pages.items c.args.level.now c.in-Ok-Some.field-0 c.in-Ok-Some.lower
    (c.in-Ok-Some.ensures.image tells) c.in-Ok-Some.field-0-is (c.in-Ok-Some.ensures.lower tells) (c.in-Ok.ensures.links tells)

pub close_gaps-returns-in-Ok-link_both-clause-links : goal.close_gaps-returns-in-Ok-link_both-clause-links
close_gaps-returns-in-Ok-link_both-clause-links g t c = λ tells.
    links_twice (g.F.PageForm.node c.args.form.now) (g.F.PageForm.frame c.args.form.now) (g.V.PageView.image c.args.view.now) (g.V.PageView.image c.gaps_below.new.view) c.args.draft.now.pages.items c.gaps_below.new.draft.pages.items c.link_both.new.draft.pages.items c.args.level.now
    (c.in-Ok.ensures.image tells) (c.in-Ok.ensures.links tells) (c.in-Ok-link_both.ensures.links tells)
