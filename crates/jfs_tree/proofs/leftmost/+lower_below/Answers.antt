use Rattle.std.proofs.Common.{◌-◌, arith}
use Rattle.jfs_tree.proofs.LeastFirst.{lowers_end, lowers_none, lowers_step}
use Rattle.jfs_tree.proofs.leftmost.+lower_below.Goals as goal

pub returns-then-most-eq0-clause-lowers : goal.returns-then-most-eq0-clause-lowers
returns-then-most-eq0-clause-lowers g t c tells =
    lowers_end (g.F.PageForm.node c.args.form.now) (g.F.PageForm.frame c.args.form.now) g.F.PageForm.scale (g.V.PageView.image c.args.view.now) c.args.draft.now.pages.items c.args.most c.args.page c.if-most-eq0.true

pub returns-in_default-clause-lowers : goal.returns-in_default-clause-lowers
returns-in_default-clause-lowers g t c tells =
    lowers_none (g.F.PageForm.node c.args.form.now) (g.F.PageForm.frame c.args.form.now) g.F.PageForm.scale (g.V.PageView.image c.args.view.now) c.args.draft.now.pages.items c.args.most c.args.page c.in-Ok.bytes.0 (g.F.PageForm.node c.args.form.now c.lower_first.new.bytes)
    (c.in-Ok.ensures.bytes tells) c.in_default.ensures.first

pub returns-clause-lowers : goal.returns-clause-lowers
returns-clause-lowers g t c tells =
    lowers_step (g.F.PageForm.node c.args.form.now) (g.F.PageForm.frame c.args.form.now) g.F.PageForm.scale (g.V.PageView.image c.args.view.now) (g.V.PageView.image c.read.new.view) c.args.draft.now.pages.items c.put_one.new.draft.pages.items c.lower_below.new.draft.pages.items c.args.most (c.args.most - 1) c.args.page c.in-Some.child
    c.in-Ok.bytes.0 c.lower_first.new.bytes c.lower_below.result (let h = c.if-most-eq0.false in omega (arith, h)) (c.read.ensures.kept tells) (c.in-Ok.ensures.bytes tells) c.in-Some.ensures.first c.lower_first.ensures.frame c.in_ok-put_one.ensures.puts (c.lower_below.ensures.lowers tells)
