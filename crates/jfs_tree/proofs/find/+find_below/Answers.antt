use Rattle.std.proofs.Common.{sym, ap, ◌∙◌, subst, ◌-◌, arith, Ok}
use Rattle.jfs_tree.specs.Form.{Leads}
use Rattle.jfs_tree.specs.Call.{pages_of}
use Rattle.jfs_tree.specs.Path.{below_root}
use Rattle.jfs_tree.proofs.Path.{way_deep, way_breaks, way_ends, way_goes, way_found, way_found_down}
use Rattle.jfs_tree.proofs.Finding.{here_finds, down_finds, down_breaks}
use Rattle.jfs_tree.proofs.find.+find_below.Goals as goal

pub returns-in-Ok-Here-clause-found : goal.returns-in-Ok-Here-clause-found
returns-in-Ok-Here-clause-found g t c tells =
    here_finds (g.F.PageForm.node c.args.form.now) g.F.PageForm.scale c.args.x.now (g.V.PageView.image c.args.view.now) c.args.page c.in-Ok.bytes.now.0 c.find.result (c.in-Ok.ensures.bytes tells)
    (rw (sym c.bytes.ensures.value) (subst (λ w. Leads g.F.PageForm.scale c.args.x.now (g.F.PageForm.node c.args.form.now c.bytes.result.now) (Ok w)) c.in-Ok-Here.field-0-is c.in-Ok-Here.ensures.way))
    (λ es h. c.find.ensures es (ap (g.F.PageForm.node c.args.form.now) c.bytes-in-Ok-Here.ensures.value ∙ h))

pub returns-in-Ok-Down-clause-found : goal.returns-in-Ok-Down-clause-found
returns-in-Ok-Down-clause-found g t c tells =
    down_finds (g.F.PageForm.node c.args.form.now) g.F.PageForm.scale g.met.F.PageForm.order c.args.x.now c.requires.point (g.V.PageView.image c.args.view.now) (g.V.PageView.image c.page.follows.lender-at-none) c.args.page c.in-Ok-Down.field-0-0 c.in-Ok-Down.child c.in-Ok-Down.field-0-2 c.in-Ok.bytes.now.0 c.find_below.result
    (c.page.follows.holds-at-none.same_image tells) (c.in-Ok.ensures.bytes tells)
    (rw (sym c.bytes.ensures.value) (subst (λ w. Leads g.F.PageForm.scale c.args.x.now (g.F.PageForm.node c.args.form.now c.bytes.result.now) (Ok w)) c.in-Ok-Down.field-0-is c.in-Ok-Down.ensures.way))
    (c.find_below.ensures.found tells)

pub returns-in-Ok-Down-clause-bad : goal.returns-in-Ok-Down-clause-bad
returns-in-Ok-Down-clause-bad g t c tells =
    down_breaks (g.F.PageForm.node c.args.form.now) g.F.PageForm.scale c.args.x.now (g.V.PageView.image c.args.view.now) (g.V.PageView.image c.page.follows.lender-at-none) c.args.most (c.args.most - 1) c.args.page c.in-Ok-Down.field-0-0 c.in-Ok-Down.child c.in-Ok-Down.field-0-2 c.in-Ok.bytes.now.0 c.find_below.result
    (let h = c.if-most-eq0.false in omega (arith, h)) (c.page.follows.holds-at-none.same_image tells) (c.in-Ok.ensures.bytes tells)
    (rw (sym c.bytes.ensures.value) (subst (λ w. Leads g.F.PageForm.scale c.args.x.now (g.F.PageForm.node c.args.form.now c.bytes.result.now) (Ok w)) c.in-Ok-Down.field-0-is c.in-Ok-Down.ensures.way))
    (c.find_below.ensures.bad tells)

pub returns-then-most-eq0-clause-way : goal.returns-then-most-eq0-clause-way
returns-then-most-eq0-clause-way g t c tells =
    way_deep g.F.PageForm.scale (pages_of (g.F.PageForm.node c.args.form.now) (g.V.PageView.image c.args.view.now)) (g.F.PageForm.scale.from c.args.x.now) c.args.most c.args.page c.if-most-eq0.true

pub returns-in-Err-way_below-clause-way : goal.returns-in-Err-way_below-clause-way
returns-in-Err-way_below-clause-way g t c tells =
    way_breaks (g.F.PageForm.node c.args.form.now) g.F.PageForm.scale c.args.x.now (g.V.PageView.image c.args.view.now) c.args.most (c.args.most - 1) c.args.page c.in-Ok.bytes.now.0
    (let h = c.if-most-eq0.false in omega (arith, h)) (c.in-Ok.ensures.bytes tells) c.in-Err-way_below.rule (ap (λ b. below_root (g.F.PageForm.node c.args.form.now b)) (sym c.bytes.ensures.value) ∙ c.in-Err-way_below.ensures.below)

pub returns-in-Ok-Here-clause-way : goal.returns-in-Ok-Here-clause-way
returns-in-Ok-Here-clause-way g t c tells =
    way_ends (g.F.PageForm.node c.args.form.now) g.F.PageForm.scale c.args.x.now (g.V.PageView.image c.args.view.now) c.args.most (c.args.most - 1) c.args.page c.in-Ok.bytes.now.0
    (let h = c.if-most-eq0.false in omega (arith, h)) (c.in-Ok.ensures.bytes tells)
    (rw (sym c.bytes.ensures.value) (subst (λ w. Leads g.F.PageForm.scale c.args.x.now (below_root (g.F.PageForm.node c.args.form.now c.bytes.result.now)) (Ok w)) c.in-Ok-Here.field-0-is c.in-Ok-Here.ensures.below))

pub returns-in-Ok-Down-clause-way : goal.returns-in-Ok-Down-clause-way
returns-in-Ok-Down-clause-way g t c tells =
    way_goes (g.F.PageForm.node c.args.form.now) g.F.PageForm.scale c.args.x.now (g.V.PageView.image c.args.view.now) c.args.most (c.args.most - 1) c.args.page c.in-Ok.bytes.now.0
    (let h = c.if-most-eq0.false in omega (arith, h)) (c.in-Ok.ensures.bytes tells) (g.V.PageView.image c.page.follows.lender-at-none) c.in-Ok-Down.field-0-0 c.in-Ok-Down.child c.in-Ok-Down.field-0-2 c.find_below.result (c.page.follows.holds-at-none.same_image tells)
    (rw (sym c.bytes.ensures.value) (subst (λ w. Leads g.F.PageForm.scale c.args.x.now (g.F.PageForm.node c.args.form.now c.bytes.result.now) (Ok w)) c.in-Ok-Down.field-0-is c.in-Ok-Down.ensures.way))
    (c.find_below.ensures.way tells)

pub returns-in-Ok-Here-clause-on_way : goal.returns-in-Ok-Here-clause-on_way
returns-in-Ok-Here-clause-on_way g t c tells =
    let leads = subst (λ w. Leads g.F.PageForm.scale c.args.x.now (g.F.PageForm.node c.args.form.now c.bytes.result.now) (Ok w)) c.in-Ok-Here.field-0-is c.in-Ok-Here.ensures.way in
    way_found (g.F.PageForm.node c.args.form.now) g.F.PageForm.scale c.args.x.now (g.V.PageView.image c.args.view.now) c.args.most (c.args.most - 1) c.args.page c.in-Ok.bytes.now.0
    (let h = c.if-most-eq0.false in omega (arith, h)) (c.in-Ok.ensures.bytes tells) leads.0 c.find.result
    (ap (g.F.PageForm.node c.args.form.now) (sym c.bytes.ensures.value) ∙ leads.1)
    (c.find.ensures leads.0 (ap (g.F.PageForm.node c.args.form.now) (c.bytes-in-Ok-Here.ensures.value ∙ sym c.bytes.ensures.value) ∙ leads.1))

pub returns-in-Ok-Down-clause-on_way : goal.returns-in-Ok-Down-clause-on_way
returns-in-Ok-Down-clause-on_way g t c tells =
    way_found_down (g.F.PageForm.node c.args.form.now) g.F.PageForm.scale c.args.x.now (g.V.PageView.image c.args.view.now) c.args.most (c.args.most - 1) c.args.page c.in-Ok.bytes.now.0
    (let h = c.if-most-eq0.false in omega (arith, h)) (c.in-Ok.ensures.bytes tells) (g.V.PageView.image c.page.follows.lender-at-none) c.in-Ok-Down.field-0-0 c.in-Ok-Down.child c.in-Ok-Down.field-0-2 c.find_below.result (c.page.follows.holds-at-none.same_image tells)
    (rw (sym c.bytes.ensures.value) (subst (λ w. Leads g.F.PageForm.scale c.args.x.now (g.F.PageForm.node c.args.form.now c.bytes.result.now) (Ok w)) c.in-Ok-Down.field-0-is c.in-Ok-Down.ensures.way))
    (c.find_below.ensures.on_way tells)
