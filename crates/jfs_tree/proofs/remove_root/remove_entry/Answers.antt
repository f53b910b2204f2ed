use Rattle.std.proofs.Common.{◌≡◌, sym, ap, ◌∙◌, subst, ℕ, List, [], None, Some, Ok, IfNone}
use Rattle.jfs_tree.specs.Form.{Leads}
use Rattle.jfs_tree.specs.Call.{nodes, pages_of, Finds}
use Rattle.jfs_tree.specs.Shrink.{Shrank}
use Rattle.jfs_tree.specs.Removal.{entry_of}
use Rattle.jfs_tree.specs.RootLoss.{RemovesAlways}
use Rattle.jfs_tree.specs.declared.draft.Drafted.{Drafted}
use Rattle.jfs_tree.proofs.Path.{root_breaks, root_leaf, root_is, root_found_down, way_lost}
use Rattle.jfs_tree.proofs.RootCalls.{names_root, names_below, down_always}
use Rattle.jfs_tree.proofs.Removed.{ShrankTo, root_takes}
use Rattle.jfs_tree.proofs.RootLost.{here_removes, down_removes}
use Rattle.jfs_tree.proofs.BytesKept.{LossKeeps, others_keep}
use Rattle.jfs_tree.proofs.LeastKept.{GoesTo, leaf_root_goes, none_kept, nothing_goes, root_goes}
use Rattle.jfs_tree.proofs.remove_root.remove_entry.Goals as goal

pub root_loses-requires-clause-there : goal.root_loses-requires-clause-there
root_loses-requires-clause-there g c =
    let leads = subst (λ w. Leads g.F.PageForm.scale c.args.x.now (g.F.PageForm.node c.args.top.now c.args.root.now) (Ok w)) c.in-Ok-Down.field-0-is c.in-Ok-Down.ensures.way in
    (leads.front, leads.child, leads.back, leads.is, leads.at)

pub returns-in-Err-clause-bad : goal.returns-in-Err-clause-bad
returns-in-Err-clause-bad g c tells =
    names_root g.F.PageForm.scale (pages_of (g.F.PageForm.node c.args.form.now) (g.V.PageView.image c.args.view.now)) (g.F.PageForm.node c.args.top.now c.args.root.now) c.in-Err.rule c.in-Err.ensures.way

pub remove-requires-clause-leaf : goal.remove-requires-clause-leaf
remove-requires-clause-leaf g c =
    subst (λ w. Leads g.F.PageForm.scale c.args.x.now (g.F.PageForm.node c.args.top.now c.args.root.now) (Ok w)) c.in-Ok-Here.field-0-is c.in-Ok-Here.ensures.way

pub returns-in-Ok-Here-clause-removes : goal.returns-in-Ok-Here-clause-removes
returns-in-Ok-Here-clause-removes g c tells =
    let node = g.F.PageForm.node c.args.form.now in
    let image = g.V.PageView.image c.args.view.now in
    let leads = subst (λ w. Leads g.F.PageForm.scale c.args.x.now (g.F.PageForm.node c.args.top.now c.args.root.now) (Ok w)) c.in-Ok-Here.field-0-is c.in-Ok-Here.ensures.way in
    subst (λ (d : List Drafted). RemovesAlways g.F.PageForm.scale c.args.x.now (pages_of node image) (nodes node d image) (g.F.PageForm.node c.args.top.now c.args.root.now) (g.F.PageForm.node c.args.top.now c.remove.new.bytes) c.args.freed.now.items c.remove.result) (sym c.requires.fresh.0)
    (subst (λ (f : List ℕ). RemovesAlways g.F.PageForm.scale c.args.x.now (pages_of node image) (pages_of node image) (g.F.PageForm.node c.args.top.now c.args.root.now) (g.F.PageForm.node c.args.top.now c.remove.new.bytes) f c.remove.result) (sym c.requires.fresh.1)
    (here_removes g.F.PageForm.scale g.met.F.PageForm.order g.met.F.PageLoss.loose c.args.x.now (pages_of node image) (g.F.PageForm.node c.args.top.now c.args.root.now) (g.F.PageForm.node c.args.top.now c.remove.new.bytes) leads.0 c.remove.result leads.1 c.remove.ensures.takes))

pub returns-in-Ok-Some-clause-removes : goal.returns-in-Ok-Some-clause-removes
returns-in-Ok-Some-clause-removes g c tells =
    let node = g.F.PageForm.node c.args.form.now in
    let image = g.V.PageView.image c.args.view.now in
    let leads = subst (λ w. Leads g.F.PageForm.scale c.args.x.now (g.F.PageForm.node c.args.top.now c.args.root.now) (Ok w)) c.in-Ok-Down.field-0-is c.in-Ok-Down.ensures.way in
    let shrunk = c.in-Ok-Some.shrunk in
    let found = subst (λ o. Finds g.F.PageForm.scale c.args.x.now (pages_of node image) c.in-Ok-Down.page (entry_of o)) c.in-Ok-Some.field-0-is (c.in-Ok-Some.ensures.found tells) in
    let shrank = subst (λ o. ShrankTo node g.F.PageForm.scale image c.remove_below.new.draft.pages.items c.in-Ok-Down.page c.args.freed.now.items c.remove_below.new.freed.items o) c.in-Ok-Some.field-0-is (c.in-Ok-Some.ensures.shrank tells) in
    subst (λ e. RemovesAlways g.F.PageForm.scale c.args.x.now (pages_of node image) (nodes node c.remove_below.new.draft.pages.items image) (g.F.PageForm.node c.args.top.now c.args.root.now) (g.F.PageForm.node c.args.top.now c.root_loses.new.root) c.remove_below.new.freed.items (Some e)) (sym c.root_loses.ensures.entry)
    (down_removes g.F.PageForm.scale g.met.F.PageForm.order g.met.F.PageLoss.loose c.args.x.now c.requires.point (pages_of node image) (nodes node c.remove_below.new.draft.pages.items image) (g.F.PageForm.node c.args.top.now c.args.root.now) (g.F.PageForm.node c.args.top.now c.root_loses.new.root)
    c.in-Ok-Down.place c.in-Ok-Down.page shrunk.levels shrunk.entry shrunk.kept c.remove_below.new.freed.items leads found
    (subst (λ (f : List ℕ). Shrank g.F.PageForm.scale shrunk.entry (pages_of node image) (nodes node c.remove_below.new.draft.pages.items image) shrunk.levels c.in-Ok-Down.page shrunk.kept f c.remove_below.new.freed.items) c.requires.fresh.1 shrank) c.root_loses.ensures.did)

pub returns-in-Ok-None-clause-removes : goal.returns-in-Ok-None-clause-removes
returns-in-Ok-None-clause-removes g c tells es spelled =
    let leads = subst (λ w. Leads g.F.PageForm.scale c.args.x.now (g.F.PageForm.node c.args.top.now c.args.root.now) (Ok w)) c.in-Ok-Down.field-0-is c.in-Ok-Down.ensures.way in (
      down_always g.F.PageForm.scale g.met.F.PageForm.order c.args.x.now c.requires.point (pages_of (g.F.PageForm.node c.args.form.now) (g.V.PageView.image c.args.view.now)) (g.F.PageForm.node c.args.top.now c.args.root.now) c.in-Ok-Down.place c.in-Ok-Down.page None
          leads (subst (λ o. Finds g.F.PageForm.scale c.args.x.now (pages_of (g.F.PageForm.node c.args.form.now) (g.V.PageView.image c.args.view.now)) c.in-Ok-Down.page (entry_of o)) c.in-Ok-None.field-0-is (c.in-Ok-None.ensures.found tells)) es spelled,
      tt,
    )

pub returns-in-Err-remove_below-clause-bad : goal.returns-in-Err-remove_below-clause-bad
returns-in-Err-remove_below-clause-bad g c tells =
    let leads = subst (λ w. Leads g.F.PageForm.scale c.args.x.now (g.F.PageForm.node c.args.top.now c.args.root.now) (Ok w)) c.in-Ok-Down.field-0-is c.in-Ok-Down.ensures.way in
    names_below g.F.PageForm.scale g.met.F.PageForm.order c.args.x.now (pages_of (g.F.PageForm.node c.args.form.now) (g.V.PageView.image c.args.view.now)) (g.F.PageForm.node c.args.top.now c.args.root.now) c.in-Ok-Down.place c.in-Ok-Down.page c.in-Err-remove_below.e leads (c.in-Err-remove_below.ensures.bad tells)

pub returns-in-Ok-Some-clause-keeps : goal.returns-in-Ok-Some-clause-keeps
returns-in-Ok-Some-clause-keeps g c tells =
    let node = g.F.PageForm.node c.args.form.now in
    let image = g.V.PageView.image c.args.view.now in
    let leads = subst (λ w. Leads g.F.PageForm.scale c.args.x.now (g.F.PageForm.node c.args.top.now c.args.root.now) (Ok w)) c.in-Ok-Down.field-0-is c.in-Ok-Down.ensures.way in
    let shrank = subst (λ o. ShrankTo node g.F.PageForm.scale image c.remove_below.new.draft.pages.items c.in-Ok-Down.page c.args.freed.now.items c.remove_below.new.freed.items o) c.in-Ok-Some.field-0-is (c.in-Ok-Some.ensures.shrank tells) in
    let shrunk = c.in-Ok-Some.shrunk in
    others_keep node g.F.PageForm.scale g.met.F.PageForm.order c.args.x.now image (g.F.PageForm.node c.args.top.now c.args.root.now) c.remove_below.new.draft.pages.items c.in-Ok-Down.place c.in-Ok-Down.page shrunk c.remove_below.new.freed.items leads
    (subst (λ (f : List ℕ). Shrank g.F.PageForm.scale shrunk.entry (pages_of node image) (nodes node c.remove_below.new.draft.pages.items image) shrunk.levels c.in-Ok-Down.page shrunk.kept f c.remove_below.new.freed.items) c.requires.fresh.1 shrank)
    (subst (LossKeeps node g.F.PageForm.scale image c.remove_below.new.draft.pages.items c.in-Ok-Down.page) c.in-Ok-Some.field-0-is (c.in-Ok-Some.ensures.keeps tells))

pub returns-in-Err-clause-way : goal.returns-in-Err-clause-way
returns-in-Err-clause-way g c tells = root_breaks g.F.PageForm.scale (g.F.PageForm.scale.from c.args.x.now) (pages_of (g.F.PageForm.node c.args.form.now) (g.V.PageView.image c.args.view.now)) (g.F.PageForm.node c.args.top.now c.args.root.now) c.in-Err.rule c.in-Err.ensures.way

pub returns-in-Ok-Here-clause-way : goal.returns-in-Ok-Here-clause-way
returns-in-Ok-Here-clause-way g c tells =
    let leads = subst (λ w. Leads g.F.PageForm.scale c.args.x.now (g.F.PageForm.node c.args.top.now c.args.root.now) (Ok w)) c.in-Ok-Here.field-0-is c.in-Ok-Here.ensures.way in
    root_leaf g.F.PageForm.scale (g.F.PageForm.scale.from c.args.x.now) (pages_of (g.F.PageForm.node c.args.form.now) (g.V.PageView.image c.args.view.now)) (g.F.PageForm.node c.args.top.now c.args.root.now) leads.0 leads.1

pub returns-in-Ok-Some-clause-way : goal.returns-in-Ok-Some-clause-way
returns-in-Ok-Some-clause-way g c tells =
    let leads = subst (λ w. Leads g.F.PageForm.scale c.args.x.now (g.F.PageForm.node c.args.top.now c.args.root.now) (Ok w)) c.in-Ok-Down.field-0-is c.in-Ok-Down.ensures.way in
    root_is g.F.PageForm.scale c.args.x.now (pages_of (g.F.PageForm.node c.args.form.now) (g.V.PageView.image c.args.view.now)) (g.F.PageForm.node c.args.top.now c.args.root.now) c.in-Ok-Down.place c.in-Ok-Down.page leads ∙ c.in-Ok-Some.ensures.way tells

pub returns-in-Ok-None-clause-way : goal.returns-in-Ok-None-clause-way
returns-in-Ok-None-clause-way g c tells =
    let leads = subst (λ w. Leads g.F.PageForm.scale c.args.x.now (g.F.PageForm.node c.args.top.now c.args.root.now) (Ok w)) c.in-Ok-Down.field-0-is c.in-Ok-Down.ensures.way in
    root_is g.F.PageForm.scale c.args.x.now (pages_of (g.F.PageForm.node c.args.form.now) (g.V.PageView.image c.args.view.now)) (g.F.PageForm.node c.args.top.now c.args.root.now) c.in-Ok-Down.place c.in-Ok-Down.page leads ∙ c.in-Ok-None.ensures.way tells

pub returns-in-Err-remove_below-clause-way : goal.returns-in-Err-remove_below-clause-way
returns-in-Err-remove_below-clause-way g c tells =
    let leads = subst (λ w. Leads g.F.PageForm.scale c.args.x.now (g.F.PageForm.node c.args.top.now c.args.root.now) (Ok w)) c.in-Ok-Down.field-0-is c.in-Ok-Down.ensures.way in
    way_lost g.F.PageForm.scale c.args.x.now (pages_of (g.F.PageForm.node c.args.form.now) (g.V.PageView.image c.args.view.now)) (g.F.PageForm.node c.args.top.now c.args.root.now) c.in-Ok-Down.place c.in-Ok-Down.page c.in-Err-remove_below.e leads (c.in-Err-remove_below.ensures.way tells)

pub returns-in-Ok-Here-clause-inner : goal.returns-in-Ok-Here-clause-inner
returns-in-Ok-Here-clause-inner g c tells =
    let leads = subst (λ w. Leads g.F.PageForm.scale c.args.x.now (g.F.PageForm.node c.args.top.now c.args.root.now) (Ok w)) c.in-Ok-Here.field-0-is c.in-Ok-Here.ensures.way in
    leaf_root_goes (g.F.PageForm.node c.args.form.now) g.F.PageForm.scale c.args.x.now (g.V.PageView.image c.args.view.now) c.args.draft.now.pages.items (g.F.PageForm.node c.args.top.now c.args.root.now) (g.F.PageForm.node c.args.top.now c.remove.new.bytes)
    c.args.freed.now.items c.remove.result c.requires.fresh.0 leads c.remove.ensures.takes (none_kept (g.F.PageForm.node c.args.top.now) c.args.root.now c.remove.new.bytes c.remove.result c.remove.ensures.kept)

pub returns-in-Ok-Some-clause-inner : goal.returns-in-Ok-Some-clause-inner
returns-in-Ok-Some-clause-inner g c tells =
    let node = g.F.PageForm.node c.args.form.now in
    let image = g.V.PageView.image c.args.view.now in
    root_goes (pages_of node image) (nodes node c.remove_below.new.draft.pages.items image) (g.F.PageForm.node c.args.top.now c.args.root.now) (g.F.PageForm.node c.args.top.now c.root_loses.new.root) c.in-Ok-Down.place c.in-Ok-Some.shrunk.kept c.remove_below.new.freed.items
    (subst (GoesTo node image c.remove_below.new.draft.pages.items c.remove_below.new.freed.items) c.in-Ok-Some.field-0-is (c.in-Ok-Some.ensures.inner tells)) c.root_loses.ensures.did

pub returns-in-Ok-None-clause-inner : goal.returns-in-Ok-None-clause-inner
returns-in-Ok-None-clause-inner g c tells =
    nothing_goes (g.F.PageForm.node c.args.form.now) (g.V.PageView.image c.args.view.now) c.remove_below.new.draft.pages.items (g.F.PageForm.node c.args.top.now c.args.root.now) c.remove_below.new.freed.items
    (subst (λ o. IfNone o ((c.remove_below.new.draft.pages.items ≡ []) × (c.remove_below.new.freed.items ≡ c.args.freed.now.items))) c.in-Ok-None.field-0-is c.in-Ok-None.ensures.absent).0

pub returns-in-Ok-Here-clause-on_way : goal.returns-in-Ok-Here-clause-on_way
returns-in-Ok-Here-clause-on_way g c tells =
    let leads = subst (λ w. Leads g.F.PageForm.scale c.args.x.now (g.F.PageForm.node c.args.top.now c.args.root.now) (Ok w)) c.in-Ok-Here.field-0-is c.in-Ok-Here.ensures.way in
    root_takes g.F.PageForm.scale c.args.x.now (pages_of (g.F.PageForm.node c.args.form.now) (g.V.PageView.image c.args.view.now)) (g.F.PageForm.node c.args.top.now c.args.root.now) (g.F.PageForm.node c.args.top.now c.remove.new.bytes) leads.0 c.remove.result leads.1 c.remove.ensures.takes

pub returns-in-Ok-Some-clause-on_way : goal.returns-in-Ok-Some-clause-on_way
returns-in-Ok-Some-clause-on_way g c tells =
    let leads = subst (λ w. Leads g.F.PageForm.scale c.args.x.now (g.F.PageForm.node c.args.top.now c.args.root.now) (Ok w)) c.in-Ok-Down.field-0-is c.in-Ok-Down.ensures.way in
    ap Some c.root_loses.ensures.entry
    ∙ root_found_down g.F.PageForm.scale c.args.x.now (pages_of (g.F.PageForm.node c.args.form.now) (g.V.PageView.image c.args.view.now)) (g.F.PageForm.node c.args.top.now c.args.root.now) c.in-Ok-Down.place c.in-Ok-Down.page (Ok (Some c.in-Ok-Some.shrunk.entry)) leads
    (sym (ap entry_of c.in-Ok-Some.field-0-is) ∙ c.in-Ok-Some.ensures.on_way tells)

pub returns-in-Ok-None-clause-on_way : goal.returns-in-Ok-None-clause-on_way
returns-in-Ok-None-clause-on_way g c tells =
    let leads = subst (λ w. Leads g.F.PageForm.scale c.args.x.now (g.F.PageForm.node c.args.top.now c.args.root.now) (Ok w)) c.in-Ok-Down.field-0-is c.in-Ok-Down.ensures.way in
    root_found_down g.F.PageForm.scale c.args.x.now (pages_of (g.F.PageForm.node c.args.form.now) (g.V.PageView.image c.args.view.now)) (g.F.PageForm.node c.args.top.now c.args.root.now) c.in-Ok-Down.place c.in-Ok-Down.page (Ok None) leads
    (sym (ap entry_of c.in-Ok-None.field-0-is) ∙ c.in-Ok-None.ensures.on_way tells)
