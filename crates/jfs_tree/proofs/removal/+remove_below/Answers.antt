use Rattle.std.proofs.Common.{◌-◌, sym, ap, ◌∙◌, subst, arith, Ok, Err, None, List}
use Rattle.jfs_tree.specs.Draft.{shown}
use Rattle.jfs_tree.specs.Form.{Leads}
use Rattle.jfs_tree.specs.Call.{pages_of, Finds}
use Rattle.jfs_tree.specs.Path.{below_root, broken_below}
use Rattle.jfs_tree.specs.Removal.{entry_of}
use Rattle.jfs_tree.specs.declared.draft.Drafted.{Drafted}
use Rattle.jfs_tree.proofs.Path.{way_deep, way_breaks, way_ends, way_is, way_fails, way_read, way_found_down}
use Rattle.jfs_tree.proofs.Finding.{down_finds, down_breaks}
use Rattle.jfs_tree.proofs.Removed.{here_shrank, here_found, here_on_way, down_shrank, down_found, down_on_way}
use Rattle.jfs_tree.proofs.BytesKept.{here_less, down_less}
use Rattle.jfs_tree.proofs.LeastKept.{here_goes, down_goes}
use Rattle.jfs_tree.proofs.Framing.{here_less_framed, down_less_framed}
use Rattle.jfs_tree.proofs.removal.+remove_below.Goals as goal

pub returns-in-Ok-Here-clause-shrank : goal.returns-in-Ok-Here-clause-shrank
returns-in-Ok-Here-clause-shrank g t c tells =
    let leads = subst (λ w. Leads g.F.PageForm.scale c.args.x.now (g.F.PageForm.node c.args.form.now c.bytes.result.now) (Ok w)) c.in-Ok-Here.field-0-is c.in-Ok-Here.ensures.way in
    here_shrank (g.F.PageForm.node c.args.form.now) g.F.PageForm.scale c.args.x.now c.in-Ok.bytes.0 c.args.page c.args.draft.now.pages.items c.remove_here.new.draft.pages.items c.args.freed.now.items c.remove_here.new.freed.items (g.V.PageView.image c.args.view.now)
    leads.0 c.remove_here.result c.remove_here.ensures.did c.requires.fresh (c.in-Ok.ensures.bytes tells) (ap (g.F.PageForm.node c.args.form.now) (sym c.bytes.ensures.value) ∙ leads.1)

pub returns-in-Ok-Here-clause-found : goal.returns-in-Ok-Here-clause-found
returns-in-Ok-Here-clause-found g t c tells =
    let leads = subst (λ w. Leads g.F.PageForm.scale c.args.x.now (g.F.PageForm.node c.args.form.now c.bytes.result.now) (Ok w)) c.in-Ok-Here.field-0-is c.in-Ok-Here.ensures.way in
    here_found (g.F.PageForm.node c.args.form.now) g.F.PageForm.scale c.args.x.now c.in-Ok.bytes.0 c.args.page c.args.draft.now.pages.items c.remove_here.new.draft.pages.items c.args.freed.now.items c.remove_here.new.freed.items (g.V.PageView.image c.args.view.now)
    c.remove_here.result c.remove_here.ensures.did c.requires.fresh (c.in-Ok.ensures.bytes tells) (rw (sym c.bytes.ensures.value) leads)

pub returns-in-Ok-Some-clause-shrank : goal.returns-in-Ok-Some-clause-shrank
returns-in-Ok-Some-clause-shrank g t c tells =
    let leads = subst (λ w. Leads g.F.PageForm.scale c.args.x.now (g.F.PageForm.node c.args.form.now c.bytes.result.now) (Ok w)) c.in-Ok-Down.field-0-is c.in-Ok-Down.ensures.way in
    let image = g.V.PageView.image c.args.view.now in
    down_shrank (g.F.PageForm.node c.args.form.now) g.F.PageForm.scale c.args.x.now c.in-Ok.bytes.0 c.args.page c.in-Ok-Down.place c.in-Ok-Down.child c.in-Ok-Some.shrunk c.in-Ok-Some.field-0 c.remove_below.new.draft.pages.items c.remove_place.new.draft.pages.items c.args.freed.now.items c.remove_below.new.freed.items c.remove_place.new.freed.items image (g.V.PageView.image c.read.new.view) c.remove_place.result
    c.remove_place.ensures.did c.remove_place.ensures.same (c.read.ensures.kept tells) (c.in-Ok.ensures.bytes tells ∙ ap (λ (d : List Drafted). shown d image c.args.page) c.requires.fresh) (rw (sym c.bytes.ensures.value) leads) c.in-Ok-Some.field-0-is (c.in-Ok-Some.ensures.shrank tells)

pub returns-in-Ok-Some-clause-found : goal.returns-in-Ok-Some-clause-found
returns-in-Ok-Some-clause-found g t c tells =
    let leads = subst (λ w. Leads g.F.PageForm.scale c.args.x.now (g.F.PageForm.node c.args.form.now c.bytes.result.now) (Ok w)) c.in-Ok-Down.field-0-is c.in-Ok-Down.ensures.way in
    let image = g.V.PageView.image c.args.view.now in
    down_found (g.F.PageForm.node c.args.form.now) g.F.PageForm.scale g.met.F.PageForm.order c.args.x.now c.requires.point image (g.V.PageView.image c.read.new.view) c.args.page c.in-Ok-Down.place c.in-Ok-Down.child c.in-Ok-Down.field-0-2 c.in-Ok.bytes.0 c.in-Ok-Some.shrunk c.in-Ok-Some.field-0 c.remove_place.result
    c.remove_place.ensures.same (c.read.ensures.kept tells) (c.in-Ok.ensures.bytes tells ∙ ap (λ (d : List Drafted). shown d image c.args.page) c.requires.fresh) (rw (sym c.bytes.ensures.value) leads) c.in-Ok-Some.field-0-is (c.in-Ok-Some.ensures.found tells)

pub returns-in-Ok-None-clause-found : goal.returns-in-Ok-None-clause-found
returns-in-Ok-None-clause-found g t c tells =
    let leads = subst (λ w. Leads g.F.PageForm.scale c.args.x.now (g.F.PageForm.node c.args.form.now c.bytes.result.now) (Ok w)) c.in-Ok-Down.field-0-is c.in-Ok-Down.ensures.way in
    let image = g.V.PageView.image c.args.view.now in
    let below = subst (λ o. Finds g.F.PageForm.scale c.args.x.now (pages_of (g.F.PageForm.node c.args.form.now) (g.V.PageView.image c.read.new.view)) c.in-Ok-Down.child (entry_of o)) c.in-Ok-None.field-0-is (c.in-Ok-None.ensures.found tells) in
    down_finds (g.F.PageForm.node c.args.form.now) g.F.PageForm.scale g.met.F.PageForm.order c.args.x.now c.requires.point image (g.V.PageView.image c.read.new.view) c.args.page c.in-Ok-Down.place c.in-Ok-Down.child c.in-Ok-Down.field-0-2 c.in-Ok.bytes.0 (Ok None)
    (c.read.ensures.kept tells) (c.in-Ok.ensures.bytes tells ∙ ap (λ (d : List Drafted). shown d image c.args.page) c.requires.fresh) (rw (sym c.bytes.ensures.value) leads) below

pub returns-in-Err-remove_below-clause-bad : goal.returns-in-Err-remove_below-clause-bad
returns-in-Err-remove_below-clause-bad g t c tells =
    let leads = subst (λ w. Leads g.F.PageForm.scale c.args.x.now (g.F.PageForm.node c.args.form.now c.bytes.result.now) (Ok w)) c.in-Ok-Down.field-0-is c.in-Ok-Down.ensures.way in
    let image = g.V.PageView.image c.args.view.now in
    down_breaks (g.F.PageForm.node c.args.form.now) g.F.PageForm.scale c.args.x.now image (g.V.PageView.image c.read.new.view) c.args.most (c.args.most - 1) c.args.page c.in-Ok-Down.place c.in-Ok-Down.child c.in-Ok-Down.field-0-2 c.in-Ok.bytes.0 (Err c.in-Err-remove_below.e)
    (let h = c.if-most-eq0.false in omega (arith, h)) (c.read.ensures.kept tells) (c.in-Ok.ensures.bytes tells ∙ ap (λ (d : List Drafted). shown d image c.args.page) c.requires.fresh) (rw (sym c.bytes.ensures.value) leads)
    (c.in-Err-remove_below.ensures.bad tells)

pub remove_place-requires-clause-there : goal.remove_place-requires-clause-there
remove_place-requires-clause-there g t c =
    let leads = subst (λ w. Leads g.F.PageForm.scale c.args.x.now (g.F.PageForm.node c.args.form.now c.bytes.result.now) (Ok w)) c.in-Ok-Down.field-0-is c.in-Ok-Down.ensures.way in
    (leads.front, leads.child, leads.back, ap (g.F.PageForm.node c.args.form.now) (sym c.bytes.ensures.value) ∙ leads.is, leads.at)

pub returns-in-Ok-Here-clause-keeps : goal.returns-in-Ok-Here-clause-keeps
returns-in-Ok-Here-clause-keeps g t c tells =
    here_less (g.F.PageForm.node c.args.form.now) g.F.PageForm.scale (g.V.PageView.image c.args.view.now) c.args.draft.now.pages.items c.remove_here.new.draft.pages.items c.args.page c.remove_here.result
    c.remove_here.ensures.keeps c.remove_here.ensures.levels c.requires.fresh

pub returns-in-Ok-Some-clause-keeps : goal.returns-in-Ok-Some-clause-keeps
returns-in-Ok-Some-clause-keeps g t c tells =
    let leads = subst (λ w. Leads g.F.PageForm.scale c.args.x.now (g.F.PageForm.node c.args.form.now c.bytes.result.now) (Ok w)) c.in-Ok-Down.field-0-is c.in-Ok-Down.ensures.way in
    let image = g.V.PageView.image c.args.view.now in
    down_less (g.F.PageForm.node c.args.form.now) g.F.PageForm.scale c.args.x.now image (g.V.PageView.image c.read.new.view) c.remove_below.new.draft.pages.items c.remove_place.new.draft.pages.items c.args.page c.in-Ok-Down.place c.in-Ok-Down.child c.in-Ok.bytes.0 c.in-Ok-Some.shrunk c.in-Ok-Some.field-0 c.remove_place.result
    c.remove_place.ensures.same c.remove_place.ensures.keeps (c.read.ensures.kept tells) (c.in-Ok.ensures.bytes tells ∙ ap (λ (d : List Drafted). shown d image c.args.page) c.requires.fresh) (rw (sym c.bytes.ensures.value) leads) c.in-Ok-Some.field-0-is (c.in-Ok-Some.ensures.keeps tells)

pub returns-then-most-eq0-clause-way : goal.returns-then-most-eq0-clause-way
returns-then-most-eq0-clause-way g t c tells =
    way_deep g.F.PageForm.scale (pages_of (g.F.PageForm.node c.args.form.now) (g.V.PageView.image c.args.view.now)) (g.F.PageForm.scale.from c.args.x.now) c.args.most c.args.page c.if-most-eq0.true

pub returns-in-Err-way_below-clause-way : goal.returns-in-Err-way_below-clause-way
returns-in-Err-way_below-clause-way g t c tells =
    way_breaks (g.F.PageForm.node c.args.form.now) g.F.PageForm.scale c.args.x.now (g.V.PageView.image c.args.view.now) c.args.most (c.args.most - 1) c.args.page c.in-Ok.bytes.0
    (let h = c.if-most-eq0.false in omega (arith, h)) (c.in-Ok.ensures.bytes tells ∙ ap (λ (d : List Drafted). shown d (g.V.PageView.image c.args.view.now) c.args.page) c.requires.fresh) c.in-Err-way_below.rule (ap (λ b. below_root (g.F.PageForm.node c.args.form.now b)) (sym c.bytes.ensures.value) ∙ c.in-Err-way_below.ensures.below)

pub returns-in-Ok-Here-clause-way : goal.returns-in-Ok-Here-clause-way
returns-in-Ok-Here-clause-way g t c tells =
    let leads = subst (λ w. Leads g.F.PageForm.scale c.args.x.now (below_root (g.F.PageForm.node c.args.form.now c.bytes.result.now)) (Ok w)) c.in-Ok-Here.field-0-is c.in-Ok-Here.ensures.below in
    let first = broken_below g.F.PageForm.scale (pages_of (g.F.PageForm.node c.args.form.now) (g.V.PageView.image c.args.view.now)) (g.F.PageForm.scale.from c.args.x.now) c.args.most c.args.page in
    way_read first c.remove_here.result (way_ends (g.F.PageForm.node c.args.form.now) g.F.PageForm.scale c.args.x.now (g.V.PageView.image c.args.view.now) c.args.most (c.args.most - 1) c.args.page c.in-Ok.bytes.0
    (let h = c.if-most-eq0.false in omega (arith, h)) (c.in-Ok.ensures.bytes tells ∙ ap (λ (d : List Drafted). shown d (g.V.PageView.image c.args.view.now) c.args.page) c.requires.fresh) (rw (sym c.bytes.ensures.value) leads)) c.remove_here.ensures.cause

pub returns-in-Ok-Some-clause-way : goal.returns-in-Ok-Some-clause-way
returns-in-Ok-Some-clause-way g t c tells =
    let leads = subst (λ w. Leads g.F.PageForm.scale c.args.x.now (g.F.PageForm.node c.args.form.now c.bytes.result.now) (Ok w)) c.in-Ok-Down.field-0-is c.in-Ok-Down.ensures.way in
    let first = broken_below g.F.PageForm.scale (pages_of (g.F.PageForm.node c.args.form.now) (g.V.PageView.image c.args.view.now)) (g.F.PageForm.scale.from c.args.x.now) c.args.most c.args.page in
    way_read first c.remove_place.result
    (way_is (g.F.PageForm.node c.args.form.now) g.F.PageForm.scale c.args.x.now (g.V.PageView.image c.args.view.now) c.args.most (c.args.most - 1) c.args.page c.in-Ok.bytes.0
    (let h = c.if-most-eq0.false in omega (arith, h)) (c.in-Ok.ensures.bytes tells ∙ ap (λ (d : List Drafted). shown d (g.V.PageView.image c.args.view.now) c.args.page) c.requires.fresh) (g.V.PageView.image c.read.new.view) c.in-Ok-Down.place c.in-Ok-Down.child c.in-Ok-Down.field-0-2 (c.read.ensures.kept tells) (rw (sym c.bytes.ensures.value) leads) ∙ c.in-Ok-Some.ensures.way tells)
    c.remove_place.ensures.cause

pub returns-in-Ok-None-clause-way : goal.returns-in-Ok-None-clause-way
returns-in-Ok-None-clause-way g t c tells =
    let leads = subst (λ w. Leads g.F.PageForm.scale c.args.x.now (g.F.PageForm.node c.args.form.now c.bytes.result.now) (Ok w)) c.in-Ok-Down.field-0-is c.in-Ok-Down.ensures.way in
    way_is (g.F.PageForm.node c.args.form.now) g.F.PageForm.scale c.args.x.now (g.V.PageView.image c.args.view.now) c.args.most (c.args.most - 1) c.args.page c.in-Ok.bytes.0
    (let h = c.if-most-eq0.false in omega (arith, h)) (c.in-Ok.ensures.bytes tells ∙ ap (λ (d : List Drafted). shown d (g.V.PageView.image c.args.view.now) c.args.page) c.requires.fresh) (g.V.PageView.image c.read.new.view) c.in-Ok-Down.place c.in-Ok-Down.child c.in-Ok-Down.field-0-2 (c.read.ensures.kept tells) (rw (sym c.bytes.ensures.value) leads) ∙ c.in-Ok-None.ensures.way tells

pub returns-in-Err-remove_below-clause-way : goal.returns-in-Err-remove_below-clause-way
returns-in-Err-remove_below-clause-way g t c tells =
    let leads = subst (λ w. Leads g.F.PageForm.scale c.args.x.now (g.F.PageForm.node c.args.form.now c.bytes.result.now) (Ok w)) c.in-Ok-Down.field-0-is c.in-Ok-Down.ensures.way in
    way_fails (g.F.PageForm.node c.args.form.now) g.F.PageForm.scale c.args.x.now (g.V.PageView.image c.args.view.now) c.args.most (c.args.most - 1) c.args.page c.in-Ok.bytes.0
    (let h = c.if-most-eq0.false in omega (arith, h)) (c.in-Ok.ensures.bytes tells ∙ ap (λ (d : List Drafted). shown d (g.V.PageView.image c.args.view.now) c.args.page) c.requires.fresh) c.remove_below.result (g.V.PageView.image c.read.new.view) c.in-Ok-Down.place c.in-Ok-Down.child c.in-Ok-Down.field-0-2 c.in-Err-remove_below.e (c.read.ensures.kept tells) (rw (sym c.bytes.ensures.value) leads) (c.in-Err-remove_below.ensures.way tells)

pub returns-in-Ok-Here-clause-inner : goal.returns-in-Ok-Here-clause-inner
returns-in-Ok-Here-clause-inner g t c tells =
    here_goes (g.F.PageForm.node c.args.form.now) (g.V.PageView.image c.args.view.now) c.args.draft.now.pages.items c.remove_here.new.draft.pages.items c.args.page c.in-Ok.bytes.0 c.remove_here.new.freed.items c.remove_here.result
    c.remove_here.ensures.inner c.requires.fresh (c.in-Ok.ensures.bytes tells)

pub returns-in-Ok-Some-clause-inner : goal.returns-in-Ok-Some-clause-inner
returns-in-Ok-Some-clause-inner g t c tells =
    down_goes (g.F.PageForm.node c.args.form.now) (g.V.PageView.image c.args.view.now) (g.V.PageView.image c.read.new.view) c.remove_below.new.draft.pages.items c.remove_place.new.draft.pages.items c.remove_below.new.freed.items c.remove_place.new.freed.items c.in-Ok-Some.shrunk c.in-Ok-Some.field-0 c.remove_place.result
    c.remove_place.ensures.inner (c.read.ensures.kept tells) c.in-Ok-Some.field-0-is (c.in-Ok-Some.ensures.inner tells)

pub returns-in-Ok-Here-clause-framed : goal.returns-in-Ok-Here-clause-framed
returns-in-Ok-Here-clause-framed g t c tells =
    here_less_framed (g.F.PageForm.frame c.args.form.now) (g.V.PageView.image c.args.view.now) c.in-Ok.bytes.0 c.args.page c.args.draft.now.pages.items c.remove_here.new.draft.pages.items c.remove_here.result c.requires.fresh (c.in-Ok.ensures.bytes tells) c.remove_here.ensures.framed

pub returns-in-Ok-Some-clause-framed : goal.returns-in-Ok-Some-clause-framed
returns-in-Ok-Some-clause-framed g t c tells =
    let image = g.V.PageView.image c.args.view.now in
    down_less_framed (g.F.PageForm.frame c.args.form.now) image (g.V.PageView.image c.read.new.view) c.in-Ok.bytes.0 c.args.page c.remove_below.new.draft.pages.items c.remove_place.new.draft.pages.items c.remove_place.result (c.read.ensures.kept tells)
    (c.in-Ok.ensures.bytes tells ∙ ap (λ (d : List Drafted). shown d image c.args.page) c.requires.fresh) (c.in-Ok-Some.ensures.framed tells) c.remove_place.ensures.framed

pub returns-in-Ok-Here-clause-on_way : goal.returns-in-Ok-Here-clause-on_way
returns-in-Ok-Here-clause-on_way g t c tells =
    let leads = subst (λ w. Leads g.F.PageForm.scale c.args.x.now (g.F.PageForm.node c.args.form.now c.bytes.result.now) (Ok w)) c.in-Ok-Here.field-0-is c.in-Ok-Here.ensures.way in
    here_on_way (g.F.PageForm.node c.args.form.now) g.F.PageForm.scale c.args.x.now c.in-Ok.bytes.0 c.args.most (c.args.most - 1) c.args.page c.args.draft.now.pages.items c.remove_here.new.draft.pages.items c.args.freed.now.items c.remove_here.new.freed.items (g.V.PageView.image c.args.view.now)
    c.remove_here.result (let h = c.if-most-eq0.false in omega (arith, h)) c.remove_here.ensures.did c.requires.fresh (c.in-Ok.ensures.bytes tells) (rw (sym c.bytes.ensures.value) leads)

pub returns-in-Ok-Some-clause-on_way : goal.returns-in-Ok-Some-clause-on_way
returns-in-Ok-Some-clause-on_way g t c tells =
    let leads = subst (λ w. Leads g.F.PageForm.scale c.args.x.now (g.F.PageForm.node c.args.form.now c.bytes.result.now) (Ok w)) c.in-Ok-Down.field-0-is c.in-Ok-Down.ensures.way in
    let image = g.V.PageView.image c.args.view.now in
    down_on_way (g.F.PageForm.node c.args.form.now) g.F.PageForm.scale c.args.x.now image (g.V.PageView.image c.read.new.view) c.args.most (c.args.most - 1) c.args.page c.in-Ok-Down.place c.in-Ok-Down.child c.in-Ok-Down.field-0-2 c.in-Ok.bytes.0 c.in-Ok-Some.shrunk c.in-Ok-Some.field-0 c.remove_place.result
    (let h = c.if-most-eq0.false in omega (arith, h)) c.remove_place.ensures.same (c.read.ensures.kept tells) (c.in-Ok.ensures.bytes tells ∙ ap (λ (d : List Drafted). shown d image c.args.page) c.requires.fresh) (rw (sym c.bytes.ensures.value) leads) c.in-Ok-Some.field-0-is (c.in-Ok-Some.ensures.on_way tells)

pub returns-in-Ok-None-clause-on_way : goal.returns-in-Ok-None-clause-on_way
returns-in-Ok-None-clause-on_way g t c tells =
    let leads = subst (λ w. Leads g.F.PageForm.scale c.args.x.now (g.F.PageForm.node c.args.form.now c.bytes.result.now) (Ok w)) c.in-Ok-Down.field-0-is c.in-Ok-Down.ensures.way in
    let image = g.V.PageView.image c.args.view.now in
    way_found_down (g.F.PageForm.node c.args.form.now) g.F.PageForm.scale c.args.x.now image c.args.most (c.args.most - 1) c.args.page c.in-Ok.bytes.0 (let h = c.if-most-eq0.false in omega (arith, h))
    (c.in-Ok.ensures.bytes tells ∙ ap (λ (d : List Drafted). shown d image c.args.page) c.requires.fresh) (g.V.PageView.image c.read.new.view) c.in-Ok-Down.place c.in-Ok-Down.child c.in-Ok-Down.field-0-2 (Ok None)
    (c.read.ensures.kept tells) (rw (sym c.bytes.ensures.value) leads) (sym (ap entry_of c.in-Ok-None.field-0-is) ∙ c.in-Ok-None.ensures.on_way tells)
