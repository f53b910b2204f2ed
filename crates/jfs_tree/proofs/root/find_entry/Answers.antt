use Rattle.std.proofs.Common.{subst, Ok}
use Rattle.jfs_tree.specs.Form.{Leads}
use Rattle.jfs_tree.specs.Call.{pages_of}
use Rattle.jfs_tree.proofs.Path.{root_breaks, root_leaf, way_from, root_found, root_found_down}
use Rattle.jfs_tree.proofs.RootCalls.{names_root, here_always, found_below, broken_below}
use Rattle.jfs_tree.proofs.root.find_entry.Goals as goal

pub returns-in-Err-clause-bad : goal.returns-in-Err-clause-bad
returns-in-Err-clause-bad g c tells =
    names_root g.F.PageForm.scale (pages_of (g.F.PageForm.node c.args.form.now) (g.V.PageView.image c.args.view.now)) (g.F.PageForm.node c.args.top.now c.args.root.now) c.in-Err.rule c.in-Err.ensures.way

pub returns-in-Ok-Here-clause-found : goal.returns-in-Ok-Here-clause-found
returns-in-Ok-Here-clause-found g c tells =
    let leads = subst (λ w. Leads g.F.PageForm.scale c.args.x.now (g.F.PageForm.node c.args.top.now c.args.root.now) (Ok w)) c.in-Ok-Here.field-0-is c.in-Ok-Here.ensures.way in
    here_always g.F.PageForm.scale c.args.x.now (pages_of (g.F.PageForm.node c.args.form.now) (g.V.PageView.image c.args.view.now)) (g.F.PageForm.node c.args.top.now c.args.root.now) leads.0 c.find.result leads.1 (c.find.ensures leads.0 leads.1)

pub returns-in-Ok-Down-clause-found : goal.returns-in-Ok-Down-clause-found
returns-in-Ok-Down-clause-found g c tells =
    let leads = subst (λ w. Leads g.F.PageForm.scale c.args.x.now (g.F.PageForm.node c.args.top.now c.args.root.now) (Ok w)) c.in-Ok-Down.field-0-is c.in-Ok-Down.ensures.way in
    found_below g.F.PageForm.scale g.met.F.PageForm.order c.args.x.now c.requires.point (pages_of (g.F.PageForm.node c.args.form.now) (g.V.PageView.image c.args.view.now)) (g.F.PageForm.node c.args.top.now c.args.root.now) c.in-Ok-Down.field-0-0 c.in-Ok-Down.page c.find_below.result leads (c.find_below.ensures.found tells)

pub returns-in-Ok-Down-clause-bad : goal.returns-in-Ok-Down-clause-bad
returns-in-Ok-Down-clause-bad g c tells =
    let leads = subst (λ w. Leads g.F.PageForm.scale c.args.x.now (g.F.PageForm.node c.args.top.now c.args.root.now) (Ok w)) c.in-Ok-Down.field-0-is c.in-Ok-Down.ensures.way in
    broken_below g.F.PageForm.scale g.met.F.PageForm.order c.args.x.now (pages_of (g.F.PageForm.node c.args.form.now) (g.V.PageView.image c.args.view.now)) (g.F.PageForm.node c.args.top.now c.args.root.now) c.in-Ok-Down.field-0-0 c.in-Ok-Down.page c.find_below.result leads (c.find_below.ensures.bad tells)

pub returns-in-Err-clause-way : goal.returns-in-Err-clause-way
returns-in-Err-clause-way g c tells =
    root_breaks g.F.PageForm.scale (g.F.PageForm.scale.from c.args.x.now) (pages_of (g.F.PageForm.node c.args.form.now) (g.V.PageView.image c.args.view.now)) (g.F.PageForm.node c.args.top.now c.args.root.now) c.in-Err.rule c.in-Err.ensures.way

pub returns-in-Ok-Here-clause-way : goal.returns-in-Ok-Here-clause-way
returns-in-Ok-Here-clause-way g c tells =
    let leads = subst (λ w. Leads g.F.PageForm.scale c.args.x.now (g.F.PageForm.node c.args.top.now c.args.root.now) (Ok w)) c.in-Ok-Here.field-0-is c.in-Ok-Here.ensures.way in
    root_leaf g.F.PageForm.scale (g.F.PageForm.scale.from c.args.x.now) (pages_of (g.F.PageForm.node c.args.form.now) (g.V.PageView.image c.args.view.now)) (g.F.PageForm.node c.args.top.now c.args.root.now) leads.0 leads.1

pub returns-in-Ok-Down-clause-way : goal.returns-in-Ok-Down-clause-way
returns-in-Ok-Down-clause-way g c tells =
    let leads = subst (λ w. Leads g.F.PageForm.scale c.args.x.now (g.F.PageForm.node c.args.top.now c.args.root.now) (Ok w)) c.in-Ok-Down.field-0-is c.in-Ok-Down.ensures.way in
    way_from g.F.PageForm.scale c.args.x.now (pages_of (g.F.PageForm.node c.args.form.now) (g.V.PageView.image c.args.view.now)) (g.F.PageForm.node c.args.top.now c.args.root.now) c.in-Ok-Down.field-0-0 c.in-Ok-Down.page c.find_below.result leads (c.find_below.ensures.way tells)

pub returns-in-Ok-Here-clause-on_way : goal.returns-in-Ok-Here-clause-on_way
returns-in-Ok-Here-clause-on_way g c tells =
    let leads = subst (λ w. Leads g.F.PageForm.scale c.args.x.now (g.F.PageForm.node c.args.top.now c.args.root.now) (Ok w)) c.in-Ok-Here.field-0-is c.in-Ok-Here.ensures.way in
    root_found g.F.PageForm.scale c.args.x.now (pages_of (g.F.PageForm.node c.args.form.now) (g.V.PageView.image c.args.view.now)) (g.F.PageForm.node c.args.top.now c.args.root.now) leads.0 c.find.result leads.1 (c.find.ensures leads.0 leads.1)

pub returns-in-Ok-Down-clause-on_way : goal.returns-in-Ok-Down-clause-on_way
returns-in-Ok-Down-clause-on_way g c tells =
    let leads = subst (λ w. Leads g.F.PageForm.scale c.args.x.now (g.F.PageForm.node c.args.top.now c.args.root.now) (Ok w)) c.in-Ok-Down.field-0-is c.in-Ok-Down.ensures.way in
    root_found_down g.F.PageForm.scale c.args.x.now (pages_of (g.F.PageForm.node c.args.form.now) (g.V.PageView.image c.args.view.now)) (g.F.PageForm.node c.args.top.now c.args.root.now) c.in-Ok-Down.field-0-0 c.in-Ok-Down.page c.find_below.result leads (c.find_below.ensures.on_way tells)
