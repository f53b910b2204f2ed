use Rattle.std.proofs.Common.{refl, sym, ap, ◌∙◌, subst, ◌-◌, arith, Ok, Err, IfSome, ◌<◌}
use Rattle.jfs_bits.specs.declared.rule.Rule.TheVariants as rules
use Rattle.jfs_tree.specs.Call.{nodes}
use Rattle.jfs_tree.specs.Form.{Leads, TellsLast}
use Rattle.jfs_tree.specs.Path.{below_root, broken_below}
use Rattle.jfs_tree.specs.Refusal.{TellsGrowing}
use Rattle.jfs_tree.specs.Room.{at_page}
use Rattle.jfs_tree.proofs.Adding.{refute_zero, refute_broken, refute_here, refute_down, grown_ok, grown_bad}
use Rattle.jfs_tree.proofs.Rooms.{grown_room}
use Rattle.jfs_tree.proofs.BytesKept.{here_keeps, grown_keeps}
use Rattle.jfs_tree.proofs.FilledSteps.{grown_filled}
use Rattle.jfs_tree.proofs.Refusing.{tells_deep, tells_broken, tells_taken, tells_clash, tells_below, tells_grown}
use Rattle.jfs_tree.proofs.Framing.{here_framed, grown_framed}
use Rattle.jfs_tree.proofs.Clearing.{here_apart, down_apart}
use Rattle.jfs_tree.proofs.Drafts.{drafts_then}
use Rattle.jfs_tree.proofs.grow.+add_below.Goals as goal

pub returns-then-most-eq0-clause-bad : goal.returns-then-most-eq0-clause-bad
returns-then-most-eq0-clause-bad g t c tells =
    refute_zero g.F.PageForm.scale c.args.x.now (nodes (g.F.PageForm.node c.args.form.now) c.args.draft.now.pages.items (g.V.PageView.image c.args.view.now)) c.args.most c.args.page c.args.fresh.now.items c.args.page rules.Deep c.if-most-eq0.true

pub take_grown-requires-clause-within : goal.take_grown-requires-clause-within
take_grown-requires-clause-within g t c =
    subst (λ n. IfSome c.in-Ok-add_below.grown.sibling (λ s. s.page < n)) (sym c.requires.bound) (c.in-Ok-add_below.ensures.below (g.V.PageView.block_count c.args.view.now) c.requires.within).1

pub returns-in-Err-way_below-clause-bad : goal.returns-in-Err-way_below-clause-bad
returns-in-Err-way_below-clause-bad g t c tells =
    refute_broken g.F.PageForm.scale c.args.x.now (nodes (g.F.PageForm.node c.args.form.now) c.args.draft.now.pages.items (g.V.PageView.image c.args.view.now)) c.args.most c.args.page c.args.fresh.now.items c.args.page c.in-Err-way_below.rule c.in-Err-way_below.rule
    (ap (λ b. below_root (g.F.PageForm.node c.args.form.now b)) (sym (c.in-Ok.ensures.bytes tells) ∙ sym c.bytes.ensures.value) ∙ c.in-Err-way_below.ensures.below)

pub returns-in-Ok-take_here-clause-grew : goal.returns-in-Ok-take_here-clause-grew
returns-in-Ok-take_here-clause-grew g t c tells =
    let leads = subst (λ w. Leads g.F.PageForm.scale c.args.x.now (g.F.PageForm.node c.args.form.now c.bytes.result.now) (Ok w)) c.in-Ok-Here.field-0-is c.in-Ok-Here.ensures.way in
    c.in-Ok-take_here.ensures.did (g.V.PageView.image c.args.view.now) leads.0 (c.in-Ok.ensures.bytes tells) (ap (g.F.PageForm.node c.args.form.now) (sym c.bytes.ensures.value) ∙ leads.1)

pub returns-in-Err-take_here-clause-bad : goal.returns-in-Err-take_here-clause-bad
returns-in-Err-take_here-clause-bad g t c tells =
    let leads = subst (λ w. Leads g.F.PageForm.scale c.args.x.now (g.F.PageForm.node c.args.form.now c.bytes.result.now) (Ok w)) c.in-Ok-Here.field-0-is c.in-Ok-Here.ensures.way in
    refute_here (g.F.PageForm.node c.args.form.now) g.F.PageForm.scale g.met.F.PageForm.order c.args.x.now c.args.draft.now.pages.items c.take_here.new.draft.pages.items (g.V.PageView.image c.args.view.now) c.args.most c.args.page c.in-Ok.bytes.0 c.args.fresh.now.items c.take_here.new.fresh.items leads.0 c.in-Err-take_here.e
    (c.in-Ok.ensures.bytes tells) (ap (g.F.PageForm.node c.args.form.now) (sym c.bytes.ensures.value) ∙ leads.1) c.in-Err-take_here.ensures.did

pub returns-in-Ok-add_below-clause-grew : goal.returns-in-Ok-add_below-clause-grew
returns-in-Ok-add_below-clause-grew g t c tells =
    let leads = subst (λ w. Leads g.F.PageForm.scale c.args.x.now (g.F.PageForm.node c.args.form.now c.bytes.result.now) (Ok w)) c.in-Ok-Down.field-0-is c.in-Ok-Down.ensures.way in
    grown_ok (g.F.PageForm.node c.args.form.now) g.F.PageForm.scale c.args.x.now c.args.draft.now.pages.items c.add_below.new.draft.pages.items c.take_grown.new.draft.pages.items (g.V.PageView.image c.args.view.now) (g.V.PageView.image c.read.new.view)
    c.args.page c.in-Ok-Down.place c.in-Ok-Down.child c.in-Ok-add_below.grown.levels c.in-Ok.bytes.0 c.in-Ok-add_below.grown.sibling c.args.fresh.now.items c.add_below.new.fresh.items c.take_grown.new.fresh.items c.take_grown.result
    (c.read.ensures.kept tells) (c.in-Ok.ensures.bytes tells) (rw (sym c.bytes.ensures.value) leads) (c.in-Ok-add_below.ensures.grew tells) c.take_grown.ensures.levels c.take_grown.ensures.did

pub returns-in-Ok-add_below-clause-bad : goal.returns-in-Ok-add_below-clause-bad
returns-in-Ok-add_below-clause-bad g t c tells =
    let leads = subst (λ w. Leads g.F.PageForm.scale c.args.x.now (g.F.PageForm.node c.args.form.now c.bytes.result.now) (Ok w)) c.in-Ok-Down.field-0-is c.in-Ok-Down.ensures.way in
    grown_bad (g.F.PageForm.node c.args.form.now) g.F.PageForm.scale g.met.F.PageForm.order c.args.x.now c.args.draft.now.pages.items c.add_below.new.draft.pages.items c.take_grown.new.draft.pages.items (g.V.PageView.image c.args.view.now) (g.V.PageView.image c.read.new.view)
    c.args.most c.args.page c.in-Ok-Down.place c.in-Ok-Down.child c.in-Ok-add_below.grown.levels c.in-Ok.bytes.0 c.in-Ok-add_below.grown.sibling c.args.fresh.now.items c.add_below.new.fresh.items c.take_grown.new.fresh.items c.take_grown.result
    (c.read.ensures.kept tells) (c.in-Ok.ensures.bytes tells) (rw (sym c.bytes.ensures.value) leads) (c.in-Ok-add_below.ensures.grew tells) c.take_grown.ensures.did

pub returns-in-Ok-add_below-clause-below : goal.returns-in-Ok-add_below-clause-below
returns-in-Ok-add_below-clause-below g t c = λ bound h. let i = c.in-Ok-add_below.ensures.below bound h in c.take_grown.ensures.below bound i.0

pub returns-in-Err-add_below-clause-bad : goal.returns-in-Err-add_below-clause-bad
returns-in-Err-add_below-clause-bad g t c tells =
    let leads = subst (λ w. Leads g.F.PageForm.scale c.args.x.now (g.F.PageForm.node c.args.form.now c.bytes.result.now) (Ok w)) c.in-Ok-Down.field-0-is c.in-Ok-Down.ensures.way in
    refute_down g.F.PageForm.scale g.met.F.PageForm.order c.args.x.now (nodes (g.F.PageForm.node c.args.form.now) c.args.draft.now.pages.items (g.V.PageView.image c.args.view.now)) c.args.most (c.args.most - 1) c.args.page c.in-Ok-Down.place c.in-Ok-Down.child c.args.fresh.now.items c.in-Err-add_below.e
    (let h = c.if-most-eq0.false in omega (arith, h)) (rw (sym (c.in-Ok.ensures.bytes tells), sym c.bytes.ensures.value) leads)
    (rw (sym (c.read.ensures.kept tells)) (c.in-Err-add_below.ensures.bad tells))

pub returns-in-Ok-add_below-clause-room : goal.returns-in-Ok-add_below-clause-room
returns-in-Ok-add_below-clause-room g t c tells =
    let leads = subst (λ w. Leads g.F.PageForm.scale c.args.x.now (g.F.PageForm.node c.args.form.now c.bytes.result.now) (Ok w)) c.in-Ok-Down.field-0-is c.in-Ok-Down.ensures.way in
    grown_room (g.F.PageForm.node c.args.form.now) g.F.PageForm.scale c.args.x.now (g.F.PageForm.is_full c.args.form.now) (λ bytes. g.F.PageForm.has_no_room c.args.form.now bytes c.args.x.now) c.args.draft.now.pages.items (g.V.PageView.image c.args.view.now) (g.V.PageView.image c.read.new.view)
    c.args.page c.in-Ok-Down.place c.in-Ok-Down.child c.in-Ok-add_below.grown.levels c.in-Ok.bytes.0 c.in-Ok-add_below.grown.sibling c.args.fresh.now.items c.add_below.new.fresh.items c.take_grown.new.fresh.items c.take_grown.result
    (c.read.ensures.kept tells) (c.in-Ok.ensures.bytes tells) (rw (sym c.bytes.ensures.value) leads) (c.in-Ok-add_below.ensures.room tells) c.take_grown.ensures.levels c.take_grown.ensures.room

pub returns-in-Ok-take_here-clause-keeps : goal.returns-in-Ok-take_here-clause-keeps
returns-in-Ok-take_here-clause-keeps g t c tells =
    here_keeps g.F.PageForm.scale (nodes (g.F.PageForm.node c.args.form.now) c.args.draft.now.pages.items (g.V.PageView.image c.args.view.now)) (g.V.PageView.image c.args.view.now) c.args.draft.now.pages.items c.take_here.new.draft.pages.items c.args.page c.args.fresh.now.items c.take_here.new.fresh.items
    c.in-Ok-take_here.ensures.keeps

pub returns-in-Ok-add_below-clause-keeps : goal.returns-in-Ok-add_below-clause-keeps
returns-in-Ok-add_below-clause-keeps g t c tells =
    let leads = subst (λ w. Leads g.F.PageForm.scale c.args.x.now (g.F.PageForm.node c.args.form.now c.bytes.result.now) (Ok w)) c.in-Ok-Down.field-0-is c.in-Ok-Down.ensures.way in
    grown_keeps (g.F.PageForm.node c.args.form.now) g.F.PageForm.scale c.args.x.now c.args.draft.now.pages.items c.add_below.new.draft.pages.items c.take_grown.new.draft.pages.items (g.V.PageView.image c.args.view.now) (g.V.PageView.image c.read.new.view)
    c.args.page c.in-Ok-Down.place c.in-Ok-Down.child c.in-Ok-add_below.grown.levels c.in-Ok.bytes.0 c.args.fresh.now.items c.add_below.new.fresh.items c.take_grown.new.fresh.items c.take_grown.result
    (c.read.ensures.kept tells) (c.in-Ok.ensures.bytes tells) (rw (sym c.bytes.ensures.value) leads) (c.in-Ok-add_below.ensures.keeps tells) c.take_grown.ensures.keeps c.in-Ok-add_below.ensures.front c.take_grown.ensures.front c.take_grown.ensures.levels

pub returns-in-Ok-take_here-clause-filled : goal.returns-in-Ok-take_here-clause-filled
returns-in-Ok-take_here-clause-filled g t c appends least fills tells =
    let leads = subst (λ w. Leads g.F.PageForm.scale c.args.x.now (g.F.PageForm.node c.args.form.now c.bytes.result.now) (Ok w)) c.in-Ok-Here.field-0-is c.in-Ok-Here.ensures.way in
    c.in-Ok-take_here.ensures.filled appends least fills (g.V.PageView.image c.args.view.now) leads.0 (c.in-Ok.ensures.bytes tells) (ap (g.F.PageForm.node c.args.form.now) (sym c.bytes.ensures.value) ∙ leads.1)

pub returns-in-Ok-add_below-clause-filled : goal.returns-in-Ok-add_below-clause-filled
returns-in-Ok-add_below-clause-filled g t c appends least fills tells =
    let leads = subst (λ w. Leads g.F.PageForm.scale c.args.x.now (g.F.PageForm.node c.args.form.now c.bytes.result.now) (Ok w)) c.in-Ok-Down.field-0-is c.in-Ok-Down.ensures.way in
    let ends = subst (λ w. TellsLast (g.F.PageForm.node c.args.form.now c.bytes.result.now) w) c.in-Ok-Down.field-0-is c.in-Ok-Down.ensures.last in
    grown_filled appends least (g.F.PageForm.node c.args.form.now) g.F.PageForm.scale c.args.x.now c.args.draft.now.pages.items c.add_below.new.draft.pages.items c.take_grown.new.draft.pages.items (g.V.PageView.image c.args.view.now) (g.V.PageView.image c.read.new.view)
    c.args.page c.in-Ok-Down.place c.in-Ok-Down.child c.in-Ok-add_below.grown.levels c.args.last c.in-Ok-Down.at_end c.in-Ok.bytes.0 c.in-Ok-add_below.grown.sibling c.args.fresh.now.items c.add_below.new.fresh.items c.take_grown.new.fresh.items c.take_grown.result
    (c.read.ensures.kept tells) (c.in-Ok.ensures.bytes tells) (rw (sym c.bytes.ensures.value) leads) (rw (sym c.bytes.ensures.value) ends) (c.in-Ok-add_below.ensures.grew tells)
    (rw (sym c.both.ensures) (c.in-Ok-add_below.ensures.filled appends least fills tells)) c.take_grown.ensures.levels (c.take_grown.ensures.filled appends least fills)

pub returns-then-most-eq0-clause-way : goal.returns-then-most-eq0-clause-way
returns-then-most-eq0-clause-way g t c tells = tells_deep g.F.PageForm.scale (nodes (g.F.PageForm.node c.args.form.now) c.args.draft.now.pages.items (g.V.PageView.image c.args.view.now)) c.args.x.now (at_page (g.F.PageForm.is_full c.args.form.now) c.args.draft.now.pages.items (g.V.PageView.image c.args.view.now)) (at_page (λ bytes. g.F.PageForm.has_no_room c.args.form.now bytes c.args.x.now) c.args.draft.now.pages.items (g.V.PageView.image c.args.view.now)) c.args.most c.args.page c.if-most-eq0.true

pub returns-in-Err-way_below-clause-way : goal.returns-in-Err-way_below-clause-way
returns-in-Err-way_below-clause-way g t c tells =
    tells_broken g.F.PageForm.scale g.met.F.PageForm.order (nodes (g.F.PageForm.node c.args.form.now) c.args.draft.now.pages.items (g.V.PageView.image c.args.view.now)) c.args.x.now (at_page (g.F.PageForm.is_full c.args.form.now) c.args.draft.now.pages.items (g.V.PageView.image c.args.view.now)) (at_page (λ bytes. g.F.PageForm.has_no_room c.args.form.now bytes c.args.x.now) c.args.draft.now.pages.items (g.V.PageView.image c.args.view.now)) c.args.most (c.args.most - 1) c.args.page (let h = c.if-most-eq0.false in omega (arith, h)) c.in-Err-way_below.rule
    (ap (λ b. below_root (g.F.PageForm.node c.args.form.now b)) (sym (c.in-Ok.ensures.bytes tells) ∙ sym c.bytes.ensures.value) ∙ c.in-Err-way_below.ensures.below)

pub returns-in-Ok-take_here-clause-way : goal.returns-in-Ok-take_here-clause-way
returns-in-Ok-take_here-clause-way g t c tells =
    let below = subst (λ w. Leads g.F.PageForm.scale c.args.x.now (below_root (g.F.PageForm.node c.args.form.now c.bytes.result.now)) (Ok w)) c.in-Ok-Here.field-0-is c.in-Ok-Here.ensures.below in
    let leads = subst (λ w. Leads g.F.PageForm.scale c.args.x.now (g.F.PageForm.node c.args.form.now c.bytes.result.now) (Ok w)) c.in-Ok-Here.field-0-is c.in-Ok-Here.ensures.way in
    tells_taken g.F.PageForm.scale g.met.F.PageForm.order (nodes (g.F.PageForm.node c.args.form.now) c.args.draft.now.pages.items (g.V.PageView.image c.args.view.now)) c.args.x.now (at_page (g.F.PageForm.is_full c.args.form.now) c.args.draft.now.pages.items (g.V.PageView.image c.args.view.now)) (at_page (λ bytes. g.F.PageForm.has_no_room c.args.form.now bytes c.args.x.now) c.args.draft.now.pages.items (g.V.PageView.image c.args.view.now)) c.args.most (c.args.most - 1) c.args.page (let h = c.if-most-eq0.false in omega (arith, h)) (record { sibling = c.in-Ok-take_here.sibling; levels = 1 }) c.in-Ok-take_here.sibling refl
    (rw (sym (c.in-Ok.ensures.bytes tells), sym c.bytes.ensures.value) below) (rw (sym (c.in-Ok.ensures.bytes tells), sym c.bytes.ensures.value) leads) (rw (sym (c.in-Ok.ensures.bytes tells)) c.in-Ok-take_here.ensures.cut)

pub returns-in-Err-take_here-clause-way : goal.returns-in-Err-take_here-clause-way
returns-in-Err-take_here-clause-way g t c tells =
    let below = subst (λ w. Leads g.F.PageForm.scale c.args.x.now (below_root (g.F.PageForm.node c.args.form.now c.bytes.result.now)) (Ok w)) c.in-Ok-Here.field-0-is c.in-Ok-Here.ensures.below in
    let leads = subst (λ w. Leads g.F.PageForm.scale c.args.x.now (g.F.PageForm.node c.args.form.now c.bytes.result.now) (Ok w)) c.in-Ok-Here.field-0-is c.in-Ok-Here.ensures.way in
    tells_clash g.F.PageForm.scale g.met.F.PageForm.order (nodes (g.F.PageForm.node c.args.form.now) c.args.draft.now.pages.items (g.V.PageView.image c.args.view.now)) c.args.x.now (at_page (g.F.PageForm.is_full c.args.form.now) c.args.draft.now.pages.items (g.V.PageView.image c.args.view.now)) (at_page (λ bytes. g.F.PageForm.has_no_room c.args.form.now bytes c.args.x.now) c.args.draft.now.pages.items (g.V.PageView.image c.args.view.now)) c.args.most (c.args.most - 1) c.args.page (let h = c.if-most-eq0.false in omega (arith, h)) c.in-Err-take_here.e
    (rw (sym (c.in-Ok.ensures.bytes tells), sym c.bytes.ensures.value) below) (rw (sym (c.in-Ok.ensures.bytes tells), sym c.bytes.ensures.value) leads) (rw (sym (c.in-Ok.ensures.bytes tells)) c.in-Err-take_here.ensures.clash)

pub returns-in-Err-add_below-clause-way : goal.returns-in-Err-add_below-clause-way
returns-in-Err-add_below-clause-way g t c tells =
    let leads = subst (λ w. Leads g.F.PageForm.scale c.args.x.now (g.F.PageForm.node c.args.form.now c.bytes.result.now) (Ok w)) c.in-Ok-Down.field-0-is c.in-Ok-Down.ensures.way in
    tells_below g.F.PageForm.scale g.met.F.PageForm.order (nodes (g.F.PageForm.node c.args.form.now) c.args.draft.now.pages.items (g.V.PageView.image c.args.view.now)) c.args.x.now (at_page (g.F.PageForm.is_full c.args.form.now) c.args.draft.now.pages.items (g.V.PageView.image c.args.view.now)) (at_page (λ bytes. g.F.PageForm.has_no_room c.args.form.now bytes c.args.x.now) c.args.draft.now.pages.items (g.V.PageView.image c.args.view.now)) c.args.most (c.args.most - 1) c.args.page (let h = c.if-most-eq0.false in omega (arith, h)) c.in-Ok-Down.place c.in-Ok-Down.child c.in-Err-add_below.e
    (rw (sym (c.in-Ok.ensures.bytes tells), sym c.bytes.ensures.value) leads) (subst (λ i. TellsGrowing g.F.PageForm.scale (nodes (g.F.PageForm.node c.args.form.now) c.args.draft.now.pages.items i) c.args.x.now (at_page (g.F.PageForm.is_full c.args.form.now) c.args.draft.now.pages.items i) (at_page (λ bytes. g.F.PageForm.has_no_room c.args.form.now bytes c.args.x.now) c.args.draft.now.pages.items i) (c.args.most - 1) c.in-Ok-Down.child
    (broken_below g.F.PageForm.scale (nodes (g.F.PageForm.node c.args.form.now) c.args.draft.now.pages.items i) (g.F.PageForm.scale.from c.args.x.now) (c.args.most - 1) c.in-Ok-Down.child) (Err c.in-Err-add_below.e)) (c.read.ensures.kept tells) (c.in-Err-add_below.ensures.way tells))

pub returns-in-Ok-add_below-clause-way : goal.returns-in-Ok-add_below-clause-way
returns-in-Ok-add_below-clause-way g t c tells =
    let leads = subst (λ w. Leads g.F.PageForm.scale c.args.x.now (g.F.PageForm.node c.args.form.now c.bytes.result.now) (Ok w)) c.in-Ok-Down.field-0-is c.in-Ok-Down.ensures.way in
    tells_grown g.F.PageForm.scale g.met.F.PageForm.order (nodes (g.F.PageForm.node c.args.form.now) c.args.draft.now.pages.items (g.V.PageView.image c.args.view.now)) c.args.x.now (at_page (g.F.PageForm.is_full c.args.form.now) c.args.draft.now.pages.items (g.V.PageView.image c.args.view.now)) (at_page (λ bytes. g.F.PageForm.has_no_room c.args.form.now bytes c.args.x.now) c.args.draft.now.pages.items (g.V.PageView.image c.args.view.now)) c.args.most (c.args.most - 1) c.args.page (let h = c.if-most-eq0.false in omega (arith, h)) c.in-Ok-Down.place c.in-Ok-Down.child c.in-Ok-add_below.grown.levels c.in-Ok-add_below.grown c.in-Ok-add_below.grown.sibling c.args.fresh.now.items c.add_below.new.fresh.items c.take_grown.result refl
    (rw (sym (c.read.ensures.kept tells)) (c.in-Ok-add_below.ensures.room tells))
    (rw (sym (c.in-Ok.ensures.bytes tells), sym c.bytes.ensures.value) c.way_below.ensures.rise) (rw (sym (c.in-Ok.ensures.bytes tells), sym c.bytes.ensures.value) leads) (rw (sym (c.read.ensures.kept tells)) (c.in-Ok-add_below.ensures.way tells))
    (rw (sym (c.in-Ok.ensures.bytes tells)) c.take_grown.ensures.cut) (rw (sym (c.in-Ok.ensures.bytes tells)) c.take_grown.ensures.clash)

pub returns-in-Ok-take_here-clause-framed : goal.returns-in-Ok-take_here-clause-framed
returns-in-Ok-take_here-clause-framed g t c tells =
    here_framed g.F.PageForm.scale c.args.x.now (g.F.PageForm.frame c.args.form.now) (g.F.PageForm.new_frame c.args.form.now) (nodes (g.F.PageForm.node c.args.form.now) c.args.draft.now.pages.items (g.V.PageView.image c.args.view.now)) (g.V.PageView.image c.args.view.now) c.in-Ok.bytes.0
    c.args.draft.now.pages.items c.take_here.new.draft.pages.items c.args.page c.args.fresh.now.items c.take_here.new.fresh.items (c.in-Ok.ensures.bytes tells) c.in-Ok-take_here.ensures.framed

pub returns-in-Ok-add_below-clause-framed : goal.returns-in-Ok-add_below-clause-framed
returns-in-Ok-add_below-clause-framed g t c tells =
    let leads = subst (λ w. Leads g.F.PageForm.scale c.args.x.now (g.F.PageForm.node c.args.form.now c.bytes.result.now) (Ok w)) c.in-Ok-Down.field-0-is c.in-Ok-Down.ensures.way in
    grown_framed g.F.PageForm.scale c.args.x.now (g.F.PageForm.frame c.args.form.now) (g.F.PageForm.new_frame c.args.form.now) (g.F.PageForm.node c.args.form.now) c.args.draft.now.pages.items c.add_below.new.draft.pages.items c.take_grown.new.draft.pages.items (g.V.PageView.image c.args.view.now) (g.V.PageView.image c.read.new.view)
    c.args.page c.in-Ok-Down.place c.in-Ok-Down.child c.in-Ok-add_below.grown.levels c.in-Ok.bytes.0 c.args.fresh.now.items c.add_below.new.fresh.items c.take_grown.new.fresh.items c.take_grown.result
    (c.read.ensures.kept tells) (c.in-Ok.ensures.bytes tells) (rw (sym c.bytes.ensures.value) leads) (c.in-Ok-add_below.ensures.framed tells) c.take_grown.ensures.keeps c.take_grown.ensures.framed c.in-Ok-add_below.ensures.front c.take_grown.ensures.front c.take_grown.ensures.levels

pub returns-in-Ok-take_here-clause-apart : goal.returns-in-Ok-take_here-clause-apart
returns-in-Ok-take_here-clause-apart g t c tells =
    let leads = subst (λ w. Leads g.F.PageForm.scale c.args.x.now (g.F.PageForm.node c.args.form.now c.bytes.result.now) (Ok w)) c.in-Ok-Here.field-0-is c.in-Ok-Here.ensures.way in
    here_apart g.F.PageForm.scale c.args.x.now (nodes (g.F.PageForm.node c.args.form.now) c.args.draft.now.pages.items (g.V.PageView.image c.args.view.now)) c.args.most (c.args.most - 1) c.args.page (g.F.PageForm.node c.args.form.now c.in-Ok.bytes.0) leads.0
    (let h = c.if-most-eq0.false in omega (arith, h)) (ap (g.F.PageForm.node c.args.form.now) (c.in-Ok.ensures.bytes tells)) (ap (g.F.PageForm.node c.args.form.now) (sym c.bytes.ensures.value) ∙ leads.1) c.in-Ok-take_here.ensures.apart

pub returns-in-Ok-add_below-clause-apart : goal.returns-in-Ok-add_below-clause-apart
returns-in-Ok-add_below-clause-apart g t c tells =
    let leads = subst (λ w. Leads g.F.PageForm.scale c.args.x.now (g.F.PageForm.node c.args.form.now c.bytes.result.now) (Ok w)) c.in-Ok-Down.field-0-is c.in-Ok-Down.ensures.way in
    down_apart g.F.PageForm.scale c.args.x.now (g.F.PageForm.node c.args.form.now) (g.V.PageView.image c.args.view.now) (g.V.PageView.image c.read.new.view) c.args.draft.now.pages.items c.args.most (c.args.most - 1) c.args.page c.in-Ok-Down.place c.in-Ok-Down.child c.take_grown.result
    (let h = c.if-most-eq0.false in omega (arith, h)) (c.read.ensures.kept tells) (rw (sym (c.in-Ok.ensures.bytes tells), sym c.bytes.ensures.value) leads) (c.in-Ok-add_below.ensures.apart tells)

pub take_here-requires-clause-leaf : goal.take_here-requires-clause-leaf
take_here-requires-clause-leaf g t c =
    let leads = subst (λ w. Leads g.F.PageForm.scale c.args.x.now (g.F.PageForm.node c.args.form.now c.bytes.result.now) (Ok w)) c.in-Ok-Here.field-0-is c.in-Ok-Here.ensures.way in
    (leads.0, ap (g.F.PageForm.node c.args.form.now) (sym c.bytes.ensures.value) ∙ leads.1)

pub take_grown-requires-clause-there : goal.take_grown-requires-clause-there
take_grown-requires-clause-there g t c =
    let leads = subst (λ w. Leads g.F.PageForm.scale c.args.x.now (g.F.PageForm.node c.args.form.now c.bytes.result.now) (Ok w)) c.in-Ok-Down.field-0-is c.in-Ok-Down.ensures.way in
    (leads.front, leads.child, leads.back, ap (g.F.PageForm.node c.args.form.now) (sym c.bytes.ensures.value) ∙ leads.is, leads.at)

pub returns-in-Ok-add_below-clause-drafted : goal.returns-in-Ok-add_below-clause-drafted
returns-in-Ok-add_below-clause-drafted g t c =
    drafts_then c.args.draft.now.pages.items c.add_below.new.draft.pages.items c.take_grown.new.draft.pages.items c.args.fresh.now.items c.add_below.new.fresh.items c.take_grown.new.fresh.items c.take_grown.result c.in-Ok-add_below.ensures.drafted c.take_grown.ensures.drafted
