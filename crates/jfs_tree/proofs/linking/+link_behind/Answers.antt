use Rattle.jfs_tree.proofs.Neighbours.{links_down, on_ok}
use Rattle.jfs_tree.proofs.Drafts.{keeps_ok}
use Rattle.jfs_tree.proofs.linking.+link_behind.Goals as goal

pub returns-in-Ok-Some-clause-links : goal.returns-in-Ok-Some-clause-links
returns-in-Ok-Some-clause-links g t c = λ tells.
    on_ok c.link_behind.result
    (links_down (g.F.PageForm.node c.args.form.now) (g.F.PageForm.frame c.args.form.now) (g.V.PageView.image c.args.view.now) (g.V.PageView.image c.link_new.new.view) (g.V.PageView.image c.beside_below.new.view) c.args.draft.now.pages.items c.link_new.new.draft.pages.items c.link_behind.new.draft.pages.items c.args.level.now
    c.in-Ok-Some.field-0 c.in-Ok-Some.lower (c.in-Ok.ensures.image tells) (c.in-Ok-Some.ensures.image tells) c.in-Ok-Some.field-0-is (c.in-Ok.ensures.links tells) (c.in-Ok-Some.ensures.lower tells)) (c.link_behind.ensures.links tells)

pub returns-in-Ok-Some-clause-drafted : goal.returns-in-Ok-Some-clause-drafted
returns-in-Ok-Some-clause-drafted g t c = keeps_ok c.args.draft.now.pages.items c.link_new.new.draft.pages.items c.link_behind.new.draft.pages.items c.link_behind.result c.in-Ok.ensures.drafted c.link_behind.ensures.drafted
