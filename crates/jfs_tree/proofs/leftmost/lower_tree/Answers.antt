use Rattle.jfs_tree.proofs.LeastFirst.{tree_none, tree_step}
use Rattle.jfs_tree.proofs.leftmost.lower_tree.Goals as goal

pub returns-in-Some-clause-lowers : goal.returns-in-Some-clause-lowers
returns-in-Some-clause-lowers g c tells =
    tree_step (g.F.PageForm.node c.args.form.now) (g.F.PageForm.frame c.args.form.now) g.F.PageForm.scale (g.V.PageView.image c.args.view.now) c.args.draft.now.pages.items c.lower_below.new.draft.pages.items (g.F.PageForm.node c.args.top.now c.args.root.now) (g.F.PageForm.node c.args.top.now c.lower_first.new.bytes) c.in-Some.page
    c.lower_below.result c.in-Some.ensures.first (c.lower_below.ensures.lowers tells)

pub returns-in-None-clause-lowers : goal.returns-in-None-clause-lowers
returns-in-None-clause-lowers g c tells =
    tree_none (g.F.PageForm.node c.args.form.now) (g.F.PageForm.frame c.args.form.now) g.F.PageForm.scale (g.V.PageView.image c.args.view.now) c.args.draft.now.pages.items (g.F.PageForm.node c.args.top.now c.args.root.now) (g.F.PageForm.node c.args.top.now c.lower_first.new.bytes) c.in-None.ensures.first
