use Rattle.std.proofs.Common.{◌<◌, refl, sym, subst, arith, [], Ok, IfSome}
use Rattle.jfs_tree.specs.Spells.{no_page}
use Rattle.jfs_tree.specs.Form.{AllBelow, Leads, TellsLast}
use Rattle.jfs_tree.specs.Call.{nodes}
use Rattle.jfs_tree.specs.Room.{FullFrom, GrowsLevel, at_page}
use Rattle.jfs_tree.proofs.RootCalls.{refuse_broken, refuse_down, here_always_adds, here_always_refuses, grown_always_adds, grown_always_refuses}
use Rattle.jfs_tree.proofs.Rooms.{root_takes, grown_levels, down_levels, broken_root, here_levels}
use Rattle.jfs_tree.proofs.BytesKept.{always_keeps}
use Rattle.jfs_tree.proofs.Becoming.{root_uses, grown_uses}
use Rattle.jfs_tree.proofs.FilledRoots.{here_always_fills, grown_always_fills}
use Rattle.jfs_tree.specs.Refusal.{HasAllLevels}
use Rattle.jfs_tree.proofs.Refusing.{adding_breaks, adding_here, adding_below, adding_grown}
use Rattle.jfs_tree.proofs.Framing.{here_always_framed, always_framed}
use Rattle.jfs_tree.proofs.Clearing.{root_apart, root_leads_apart}
use Rattle.jfs_tree.proofs.Drafts.{drafts_then}
use Rattle.jfs_tree.proofs.root.add_entry.Goals as goal

pub root_takes_grown-requires-clause-child : goal.root_takes_grown-requires-clause-child
root_takes_grown-requires-clause-child g c = subst (λ n. IfSome c.in-Ok.grown.sibling (λ s. s.page < n)) (sym c.requires.bound.0) (c.in-Ok.ensures.below (g.V.PageView.block_count c.args.view.now) c.requires.within).1

pub root_takes_grown-requires-clause-within : goal.root_takes_grown-requires-clause-within
root_takes_grown-requires-clause-within g c = subst (λ n. AllBelow n c.add_below.new.fresh.items) (sym c.requires.bound.0) (c.in-Ok.ensures.below (g.V.PageView.block_count c.args.view.now) c.requires.within).0

pub returns-in-Err-clause-refused : goal.returns-in-Err-clause-refused
returns-in-Err-clause-refused g c tells = refuse_broken g.F.PageForm.scale c.args.x.now (nodes (g.F.PageForm.node c.args.form.now) c.args.draft.now.pages.items (g.V.PageView.image c.args.view.now)) (g.F.PageForm.node c.args.top.now c.args.root.now) c.in-Err.rule c.args.fresh.now.items no_page c.in-Err.rule c.in-Err.ensures.way

pub returns-in-Ok-Here-clause-adds : goal.returns-in-Ok-Here-clause-adds
returns-in-Ok-Here-clause-adds g c tells =
    let leads = subst (λ w. Leads g.F.PageForm.scale c.args.x.now (g.F.PageForm.node c.args.top.now c.args.root.now) (Ok w)) c.in-Ok-Here.field-0-is c.in-Ok-Here.ensures.way in
    here_always_adds (g.F.PageForm.node c.args.form.now) g.F.PageForm.scale g.met.F.PageForm.order c.args.x.now (g.V.PageView.image c.args.view.now) (g.F.PageForm.node c.args.top.now c.args.root.now) (g.F.PageForm.node c.args.top.now c.root_takes_here.new.root) c.args.draft.now.pages.items c.root_takes_here.new.draft.pages.items leads.0 (g.V.PageView.block_count c.args.view.now) c.args.fresh.now.items c.root_takes_here.new.fresh.items c.root_takes_here.result
    c.requires.within (subst (λ n. AllBelow n c.root_takes_here.new.fresh.items) c.requires.bound.0 c.root_takes_here.ensures.below) (let h = c.blocks-blocks.ensures in let i = c.blocks-blocks.type_inv in omega (arith, h, i)) leads.1 c.root_takes_here.ensures.did

pub returns-in-Ok-Here-clause-refused : goal.returns-in-Ok-Here-clause-refused
returns-in-Ok-Here-clause-refused g c tells =
    let leads = subst (λ w. Leads g.F.PageForm.scale c.args.x.now (g.F.PageForm.node c.args.top.now c.args.root.now) (Ok w)) c.in-Ok-Here.field-0-is c.in-Ok-Here.ensures.way in
    here_always_refuses (g.F.PageForm.node c.args.form.now) g.F.PageForm.scale g.met.F.PageForm.order c.args.x.now (nodes (g.F.PageForm.node c.args.form.now) c.args.draft.now.pages.items (g.V.PageView.image c.args.view.now)) (g.F.PageForm.node c.args.top.now c.args.root.now) (g.F.PageForm.node c.args.top.now c.root_takes_here.new.root) c.args.draft.now.pages.items c.root_takes_here.new.draft.pages.items leads.0 c.args.fresh.now.items c.root_takes_here.new.fresh.items c.root_takes_here.result
    leads.1 c.root_takes_here.ensures.did

pub returns-in-Ok-clause-adds : goal.returns-in-Ok-clause-adds
returns-in-Ok-clause-adds g c tells =
    let leads = subst (λ w. Leads g.F.PageForm.scale c.args.x.now (g.F.PageForm.node c.args.top.now c.args.root.now) (Ok w)) c.in-Ok-Down.field-0-is c.in-Ok-Down.ensures.way in
    grown_always_adds (g.F.PageForm.node c.args.form.now) g.F.PageForm.scale g.met.F.PageForm.order c.args.x.now (g.V.PageView.image c.args.view.now) (g.F.PageForm.node c.args.top.now c.args.root.now) (g.F.PageForm.node c.args.top.now c.root_takes_grown.new.root) c.args.draft.now.pages.items c.add_below.new.draft.pages.items c.root_takes_grown.new.draft.pages.items
    c.in-Ok-Down.place c.in-Ok-Down.page c.in-Ok.grown.levels (g.V.PageView.block_count c.args.view.now) c.args.fresh.now.items c.add_below.new.fresh.items c.root_takes_grown.new.fresh.items c.in-Ok.grown.sibling c.root_takes_grown.result
    c.requires.within (subst (λ n. AllBelow n c.root_takes_grown.new.fresh.items) c.requires.bound.0 c.root_takes_grown.ensures.below) (let h = c.blocks-blocks.ensures in let i = c.blocks-blocks.type_inv in omega (arith, h, i)) leads (c.in-Ok.ensures.grew tells) c.root_takes_grown.ensures.did

pub returns-in-Ok-clause-refused : goal.returns-in-Ok-clause-refused
returns-in-Ok-clause-refused g c tells =
    let leads = subst (λ w. Leads g.F.PageForm.scale c.args.x.now (g.F.PageForm.node c.args.top.now c.args.root.now) (Ok w)) c.in-Ok-Down.field-0-is c.in-Ok-Down.ensures.way in
    grown_always_refuses (g.F.PageForm.node c.args.form.now) g.F.PageForm.scale g.met.F.PageForm.order c.args.x.now (g.V.PageView.image c.args.view.now) (g.F.PageForm.node c.args.top.now c.args.root.now) (g.F.PageForm.node c.args.top.now c.root_takes_grown.new.root) c.args.draft.now.pages.items c.add_below.new.draft.pages.items c.root_takes_grown.new.draft.pages.items
    c.in-Ok-Down.place c.in-Ok-Down.page c.in-Ok.grown.levels (g.V.PageView.block_count c.args.view.now) c.args.fresh.now.items c.add_below.new.fresh.items c.root_takes_grown.new.fresh.items c.in-Ok.grown.sibling c.root_takes_grown.result
    c.requires.within (let h = c.blocks-blocks.ensures in let i = c.blocks-blocks.type_inv in omega (arith, h, i)) leads (c.in-Ok.ensures.grew tells) c.root_takes_grown.ensures.did

pub returns-in-Err-add_below-clause-refused : goal.returns-in-Err-add_below-clause-refused
returns-in-Err-add_below-clause-refused g c tells =
    let leads = subst (λ w. Leads g.F.PageForm.scale c.args.x.now (g.F.PageForm.node c.args.top.now c.args.root.now) (Ok w)) c.in-Ok-Down.field-0-is c.in-Ok-Down.ensures.way in
    refuse_down g.F.PageForm.scale g.met.F.PageForm.order c.args.x.now (nodes (g.F.PageForm.node c.args.form.now) c.args.draft.now.pages.items (g.V.PageView.image c.args.view.now)) (g.F.PageForm.node c.args.top.now c.args.root.now) c.in-Ok-Down.place c.in-Ok-Down.page (g.V.PageView.block_count c.args.view.now) c.args.fresh.now.items c.in-Err-add_below.e
    c.requires.within (let h = c.blocks-blocks.ensures in let i = c.blocks-blocks.type_inv in omega (arith, h, i)) leads (c.in-Err-add_below.ensures.bad tells)

pub returns-in-Err-clause-levels : goal.returns-in-Err-clause-levels
returns-in-Err-clause-levels g c tells =
    broken_root g.F.PageForm.scale c.args.x.now (nodes (g.F.PageForm.node c.args.form.now) c.args.draft.now.pages.items (g.V.PageView.image c.args.view.now)) (nodes (g.F.PageForm.node c.args.form.now) c.args.draft.now.pages.items (g.V.PageView.image c.args.view.now)) (g.F.PageForm.node c.args.top.now c.args.root.now) (g.F.PageForm.node c.args.top.now c.args.root.now) c.in-Err.rule c.args.fresh.now.items no_page
    (GrowsLevel g.F.PageForm.scale c.args.x.now (nodes (g.F.PageForm.node c.args.form.now) c.args.draft.now.pages.items (g.V.PageView.image c.args.view.now)) (at_page (g.F.PageForm.is_full c.args.form.now) c.args.draft.now.pages.items (g.V.PageView.image c.args.view.now)) (at_page (λ bytes. g.F.PageForm.has_no_room c.args.form.now bytes c.args.x.now) c.args.draft.now.pages.items (g.V.PageView.image c.args.view.now))
    (g.F.PageForm.node c.args.top.now c.args.root.now) (g.F.PageForm.is_full c.args.top.now c.args.root.now × g.F.PageForm.has_no_room c.args.top.now c.args.root.now c.args.x.now) (λ key. g.F.PageForm.is_full c.args.top.now c.args.root.now × g.F.PageForm.has_no_place c.args.top.now c.args.root.now key)
    (g.F.PageForm.node c.args.top.now c.args.root.now) (nodes (g.F.PageForm.node c.args.form.now) c.args.draft.now.pages.items (g.V.PageView.image c.args.view.now)))
    (FullFrom g.F.PageForm.scale c.args.x.now (nodes (g.F.PageForm.node c.args.form.now) c.args.draft.now.pages.items (g.V.PageView.image c.args.view.now)) (at_page (g.F.PageForm.is_full c.args.form.now) c.args.draft.now.pages.items (g.V.PageView.image c.args.view.now)) (at_page (λ bytes. g.F.PageForm.has_no_room c.args.form.now bytes c.args.x.now) c.args.draft.now.pages.items (g.V.PageView.image c.args.view.now)) (g.F.PageForm.node c.args.top.now c.args.root.now) (g.F.PageForm.is_full c.args.top.now c.args.root.now × g.F.PageForm.has_no_room c.args.top.now c.args.root.now c.args.x.now) (λ key. g.F.PageForm.is_full c.args.top.now c.args.root.now × g.F.PageForm.has_no_place c.args.top.now c.args.root.now key)) c.in-Err.ensures.way

pub returns-in-Ok-Here-clause-levels : goal.returns-in-Ok-Here-clause-levels
returns-in-Ok-Here-clause-levels g c tells =
    let leads = subst (λ w. Leads g.F.PageForm.scale c.args.x.now (g.F.PageForm.node c.args.top.now c.args.root.now) (Ok w)) c.in-Ok-Here.field-0-is c.in-Ok-Here.ensures.way in
    here_levels (g.F.PageForm.node c.args.form.now) g.F.PageForm.scale g.met.F.PageForm.order c.args.x.now (g.V.PageView.image c.args.view.now) (g.F.PageForm.node c.args.top.now c.args.root.now) (g.F.PageForm.node c.args.top.now c.root_takes_here.new.root) c.args.draft.now.pages.items c.root_takes_here.new.draft.pages.items leads.0 c.args.fresh.now.items c.root_takes_here.new.fresh.items
    (at_page (g.F.PageForm.is_full c.args.form.now) c.args.draft.now.pages.items (g.V.PageView.image c.args.view.now)) (at_page (λ bytes. g.F.PageForm.has_no_room c.args.form.now bytes c.args.x.now) c.args.draft.now.pages.items (g.V.PageView.image c.args.view.now))
    (g.F.PageForm.is_full c.args.top.now c.args.root.now × g.F.PageForm.has_no_room c.args.top.now c.args.root.now c.args.x.now) (λ key. g.F.PageForm.is_full c.args.top.now c.args.root.now × g.F.PageForm.has_no_place c.args.top.now c.args.root.now key) c.root_takes_here.result leads.1 c.root_takes_here.ensures.did c.root_takes_here.ensures.room

pub returns-in-Ok-clause-taken : goal.returns-in-Ok-clause-taken
returns-in-Ok-clause-taken g c tells =
    let leads = subst (λ w. Leads g.F.PageForm.scale c.args.x.now (g.F.PageForm.node c.args.top.now c.args.root.now) (Ok w)) c.in-Ok-Down.field-0-is c.in-Ok-Down.ensures.way in
    root_takes g.F.PageForm.scale c.args.x.now (nodes (g.F.PageForm.node c.args.form.now) c.args.draft.now.pages.items (g.V.PageView.image c.args.view.now))
    (at_page (g.F.PageForm.is_full c.args.form.now) c.args.draft.now.pages.items (g.V.PageView.image c.args.view.now)) (at_page (λ bytes. g.F.PageForm.has_no_room c.args.form.now bytes c.args.x.now) c.args.draft.now.pages.items (g.V.PageView.image c.args.view.now))
    (g.F.PageForm.node c.args.top.now c.args.root.now) (g.F.PageForm.is_full c.args.top.now c.args.root.now × g.F.PageForm.has_no_room c.args.top.now c.args.root.now c.args.x.now) (λ key. g.F.PageForm.is_full c.args.top.now c.args.root.now × g.F.PageForm.has_no_place c.args.top.now c.args.root.now key)
    c.in-Ok-Down.place c.in-Ok-Down.page c.in-Ok.grown.levels c.in-Ok.grown.sibling c.args.fresh.now.items c.add_below.new.fresh.items c.root_takes_grown.new.fresh.items c.root_takes_grown.result
    leads (c.in-Ok.ensures.room tells) c.root_takes_grown.ensures.room

pub returns-in-Ok-clause-levels : goal.returns-in-Ok-clause-levels
returns-in-Ok-clause-levels g c tells =
    let leads = subst (λ w. Leads g.F.PageForm.scale c.args.x.now (g.F.PageForm.node c.args.top.now c.args.root.now) (Ok w)) c.in-Ok-Down.field-0-is c.in-Ok-Down.ensures.way in
    grown_levels (g.F.PageForm.node c.args.form.now) g.F.PageForm.scale g.met.F.PageForm.order c.args.x.now (g.V.PageView.image c.args.view.now) (g.F.PageForm.node c.args.top.now c.args.root.now) (g.F.PageForm.node c.args.top.now c.root_takes_grown.new.root)
    c.args.draft.now.pages.items c.add_below.new.draft.pages.items c.root_takes_grown.new.draft.pages.items c.in-Ok-Down.place c.in-Ok-Down.page c.in-Ok.grown.levels (g.V.PageView.block_count c.args.view.now) c.args.fresh.now.items c.add_below.new.fresh.items c.root_takes_grown.new.fresh.items
    (at_page (g.F.PageForm.is_full c.args.form.now) c.args.draft.now.pages.items (g.V.PageView.image c.args.view.now)) (at_page (λ bytes. g.F.PageForm.has_no_room c.args.form.now bytes c.args.x.now) c.args.draft.now.pages.items (g.V.PageView.image c.args.view.now))
    (g.F.PageForm.is_full c.args.top.now c.args.root.now × g.F.PageForm.has_no_room c.args.top.now c.args.root.now c.args.x.now) (λ key. g.F.PageForm.is_full c.args.top.now c.args.root.now × g.F.PageForm.has_no_place c.args.top.now c.args.root.now key)
    c.requires.within (let h = c.blocks-blocks.ensures in let i = c.blocks-blocks.type_inv in omega (arith, h, i)) leads c.in-Ok.grown.sibling c.root_takes_grown.result (c.in-Ok.ensures.grew tells) (c.in-Ok.ensures.room tells) c.root_takes_grown.ensures.did c.root_takes_grown.ensures.room

pub returns-in-Err-add_below-clause-levels : goal.returns-in-Err-add_below-clause-levels
returns-in-Err-add_below-clause-levels g c tells =
    let leads = subst (λ w. Leads g.F.PageForm.scale c.args.x.now (g.F.PageForm.node c.args.top.now c.args.root.now) (Ok w)) c.in-Ok-Down.field-0-is c.in-Ok-Down.ensures.way in
    down_levels (g.F.PageForm.node c.args.form.now) g.F.PageForm.scale g.met.F.PageForm.order c.args.x.now (g.V.PageView.image c.args.view.now) (g.F.PageForm.node c.args.top.now c.args.root.now) (g.F.PageForm.node c.args.top.now c.args.root.now)
    c.args.draft.now.pages.items [] [] c.in-Ok-Down.place c.in-Ok-Down.page 0 (g.V.PageView.block_count c.args.view.now) c.args.fresh.now.items [] []
    (at_page (g.F.PageForm.is_full c.args.form.now) c.args.draft.now.pages.items (g.V.PageView.image c.args.view.now)) (at_page (λ bytes. g.F.PageForm.has_no_room c.args.form.now bytes c.args.x.now) c.args.draft.now.pages.items (g.V.PageView.image c.args.view.now))
    (g.F.PageForm.is_full c.args.top.now c.args.root.now × g.F.PageForm.has_no_room c.args.top.now c.args.root.now c.args.x.now) (λ key. g.F.PageForm.is_full c.args.top.now c.args.root.now × g.F.PageForm.has_no_place c.args.top.now c.args.root.now key)
    c.requires.within (let h = c.blocks-blocks.ensures in let i = c.blocks-blocks.type_inv in omega (arith, h, i)) leads c.in-Err-add_below.e (nodes (g.F.PageForm.node c.args.form.now) c.add_below.new.draft.pages.items (g.V.PageView.image c.args.view.now))
    (GrowsLevel g.F.PageForm.scale c.args.x.now (nodes (g.F.PageForm.node c.args.form.now) c.args.draft.now.pages.items (g.V.PageView.image c.args.view.now)) (at_page (g.F.PageForm.is_full c.args.form.now) c.args.draft.now.pages.items (g.V.PageView.image c.args.view.now)) (at_page (λ bytes. g.F.PageForm.has_no_room c.args.form.now bytes c.args.x.now) c.args.draft.now.pages.items (g.V.PageView.image c.args.view.now))
    (g.F.PageForm.node c.args.top.now c.args.root.now) (g.F.PageForm.is_full c.args.top.now c.args.root.now × g.F.PageForm.has_no_room c.args.top.now c.args.root.now c.args.x.now) (λ key. g.F.PageForm.is_full c.args.top.now c.args.root.now × g.F.PageForm.has_no_place c.args.top.now c.args.root.now key)
    (g.F.PageForm.node c.args.top.now c.args.root.now) (nodes (g.F.PageForm.node c.args.form.now) c.add_below.new.draft.pages.items (g.V.PageView.image c.args.view.now))) (c.in-Err-add_below.ensures.bad tells)

pub returns-in-Ok-clause-keeps : goal.returns-in-Ok-clause-keeps
returns-in-Ok-clause-keeps g c tells =
    let leads = subst (λ w. Leads g.F.PageForm.scale c.args.x.now (g.F.PageForm.node c.args.top.now c.args.root.now) (Ok w)) c.in-Ok-Down.field-0-is c.in-Ok-Down.ensures.way in
    always_keeps (g.F.PageForm.node c.args.form.now) g.F.PageForm.scale g.met.F.PageForm.order c.args.x.now (g.V.PageView.image c.args.view.now) (g.F.PageForm.node c.args.top.now c.args.root.now) c.args.draft.now.pages.items c.add_below.new.draft.pages.items c.root_takes_grown.new.draft.pages.items
    c.in-Ok-Down.place c.in-Ok-Down.page c.in-Ok.grown.levels (g.V.PageView.block_count c.args.view.now) c.args.fresh.now.items c.add_below.new.fresh.items c.root_takes_grown.new.fresh.items c.in-Ok.grown.sibling c.root_takes_grown.result
    c.requires.within (let h = c.blocks-blocks.ensures in let i = c.blocks-blocks.type_inv in omega (arith, h, i)) leads (c.in-Ok.ensures.grew tells) (c.in-Ok.ensures.keeps tells) c.root_takes_grown.ensures.keeps c.in-Ok.ensures.front c.root_takes_grown.ensures.front

pub returns-in-Ok-Here-clause-used : goal.returns-in-Ok-Here-clause-used
returns-in-Ok-Here-clause-used g c =
    root_uses c.root_takes_here.result (g.F.PageForm.is_full c.args.top.now c.args.root.now × g.F.PageForm.has_no_room c.args.top.now c.args.root.now c.args.x.now) c.args.fresh.now.items c.root_takes_here.new.fresh.items c.root_takes_here.ensures.room

pub returns-in-Ok-clause-used : goal.returns-in-Ok-clause-used
returns-in-Ok-clause-used g c =
    grown_uses g.F.PageForm.scale (λ key. g.F.PageForm.is_full c.args.top.now c.args.root.now × g.F.PageForm.has_no_place c.args.top.now c.args.root.now key) c.in-Ok-Down.place c.in-Ok.grown.sibling (g.F.PageForm.node c.args.top.now c.args.root.now)
    c.args.fresh.now.items c.add_below.new.fresh.items c.root_takes_grown.new.fresh.items c.in-Ok.grown.levels c.root_takes_grown.result c.in-Ok.ensures.used.0 c.in-Ok.ensures.used.1 c.root_takes_grown.ensures.room

pub returns-in-Ok-Here-clause-filled : goal.returns-in-Ok-Here-clause-filled
returns-in-Ok-Here-clause-filled g c appends least fills tells =
    let leads = subst (λ w. Leads g.F.PageForm.scale c.args.x.now (g.F.PageForm.node c.args.top.now c.args.root.now) (Ok w)) c.in-Ok-Here.field-0-is c.in-Ok-Here.ensures.way in
    here_always_fills appends least (g.F.PageForm.node c.args.form.now) g.F.PageForm.scale c.args.x.now (g.V.PageView.image c.args.view.now) (g.F.PageForm.node c.args.top.now c.args.root.now) (g.F.PageForm.node c.args.top.now c.root_takes_here.new.root) c.args.draft.now.pages.items c.root_takes_here.new.draft.pages.items leads.0 (g.V.PageView.block_count c.args.view.now) c.args.fresh.now.items c.root_takes_here.new.fresh.items c.root_takes_here.result
    c.requires.within (let h = c.blocks-blocks.ensures in let i = c.blocks-blocks.type_inv in omega (arith, h, i)) leads.1 c.root_takes_here.ensures.did

pub returns-in-Ok-clause-filled : goal.returns-in-Ok-clause-filled
returns-in-Ok-clause-filled g c appends least fills tells =
    let leads = subst (λ w. Leads g.F.PageForm.scale c.args.x.now (g.F.PageForm.node c.args.top.now c.args.root.now) (Ok w)) c.in-Ok-Down.field-0-is c.in-Ok-Down.ensures.way in
    let ends = subst (λ w. TellsLast (g.F.PageForm.node c.args.top.now c.args.root.now) w) c.in-Ok-Down.field-0-is c.in-Ok-Down.ensures.last in
    grown_always_fills appends least (g.F.PageForm.node c.args.form.now) g.F.PageForm.scale g.met.F.PageForm.order c.args.x.now (g.V.PageView.image c.args.view.now) (g.F.PageForm.node c.args.top.now c.args.root.now) (g.F.PageForm.node c.args.top.now c.root_takes_grown.new.root) c.args.draft.now.pages.items c.add_below.new.draft.pages.items c.root_takes_grown.new.draft.pages.items
    c.in-Ok-Down.place c.in-Ok-Down.page c.in-Ok.grown.levels (g.V.PageView.block_count c.args.view.now) c.args.fresh.now.items c.add_below.new.fresh.items c.root_takes_grown.new.fresh.items c.in-Ok.grown.sibling c.in-Ok-Down.last c.root_takes_grown.result
    c.requires.within (let h = c.blocks-blocks.ensures in let i = c.blocks-blocks.type_inv in omega (arith, h, i)) leads ends (c.in-Ok.ensures.grew tells) (c.in-Ok.ensures.filled appends least fills tells) c.root_takes_grown.ensures.did

pub returns-in-Err-clause-way : goal.returns-in-Err-clause-way
returns-in-Err-clause-way g c tells = adding_breaks g.F.PageForm.scale (nodes (g.F.PageForm.node c.args.form.now) c.args.draft.now.pages.items (g.V.PageView.image c.args.view.now)) c.args.x.now (at_page (g.F.PageForm.is_full c.args.form.now) c.args.draft.now.pages.items (g.V.PageView.image c.args.view.now)) (at_page (λ bytes. g.F.PageForm.has_no_room c.args.form.now bytes c.args.x.now) c.args.draft.now.pages.items (g.V.PageView.image c.args.view.now)) (g.F.PageForm.node c.args.top.now c.args.root.now) (HasAllLevels g.F.PageForm.scale (nodes (g.F.PageForm.node c.args.form.now) c.args.draft.now.pages.items (g.V.PageView.image c.args.view.now)) c.args.x.now (at_page (g.F.PageForm.is_full c.args.form.now) c.args.draft.now.pages.items (g.V.PageView.image c.args.view.now)) (at_page (λ bytes. g.F.PageForm.has_no_room c.args.form.now bytes c.args.x.now) c.args.draft.now.pages.items (g.V.PageView.image c.args.view.now)) (g.F.PageForm.node c.args.top.now c.args.root.now) (λ key. g.F.PageForm.is_full c.args.top.now c.args.root.now × g.F.PageForm.has_no_place c.args.top.now c.args.root.now key)) c.in-Err.rule c.in-Err.ensures.way

pub returns-in-Ok-Here-clause-way : goal.returns-in-Ok-Here-clause-way
returns-in-Ok-Here-clause-way g c tells =
    let leads = subst (λ w. Leads g.F.PageForm.scale c.args.x.now (g.F.PageForm.node c.args.top.now c.args.root.now) (Ok w)) c.in-Ok-Here.field-0-is c.in-Ok-Here.ensures.way in
    adding_here g.F.PageForm.scale (nodes (g.F.PageForm.node c.args.form.now) c.args.draft.now.pages.items (g.V.PageView.image c.args.view.now)) c.args.x.now (at_page (g.F.PageForm.is_full c.args.form.now) c.args.draft.now.pages.items (g.V.PageView.image c.args.view.now)) (at_page (λ bytes. g.F.PageForm.has_no_room c.args.form.now bytes c.args.x.now) c.args.draft.now.pages.items (g.V.PageView.image c.args.view.now)) (g.F.PageForm.node c.args.top.now c.args.root.now) (HasAllLevels g.F.PageForm.scale (nodes (g.F.PageForm.node c.args.form.now) c.args.draft.now.pages.items (g.V.PageView.image c.args.view.now)) c.args.x.now (at_page (g.F.PageForm.is_full c.args.form.now) c.args.draft.now.pages.items (g.V.PageView.image c.args.view.now)) (at_page (λ bytes. g.F.PageForm.has_no_room c.args.form.now bytes c.args.x.now) c.args.draft.now.pages.items (g.V.PageView.image c.args.view.now)) (g.F.PageForm.node c.args.top.now c.args.root.now) (λ key. g.F.PageForm.is_full c.args.top.now c.args.root.now × g.F.PageForm.has_no_place c.args.top.now c.args.root.now key)) leads.0 c.root_takes_here.result leads.1 c.root_takes_here.ensures.clash

pub returns-in-Err-add_below-clause-way : goal.returns-in-Err-add_below-clause-way
returns-in-Err-add_below-clause-way g c tells =
    let leads = subst (λ w. Leads g.F.PageForm.scale c.args.x.now (g.F.PageForm.node c.args.top.now c.args.root.now) (Ok w)) c.in-Ok-Down.field-0-is c.in-Ok-Down.ensures.way in
    adding_below g.F.PageForm.scale (nodes (g.F.PageForm.node c.args.form.now) c.args.draft.now.pages.items (g.V.PageView.image c.args.view.now)) c.args.x.now (at_page (g.F.PageForm.is_full c.args.form.now) c.args.draft.now.pages.items (g.V.PageView.image c.args.view.now)) (at_page (λ bytes. g.F.PageForm.has_no_room c.args.form.now bytes c.args.x.now) c.args.draft.now.pages.items (g.V.PageView.image c.args.view.now)) (g.F.PageForm.node c.args.top.now c.args.root.now) (HasAllLevels g.F.PageForm.scale (nodes (g.F.PageForm.node c.args.form.now) c.args.draft.now.pages.items (g.V.PageView.image c.args.view.now)) c.args.x.now (at_page (g.F.PageForm.is_full c.args.form.now) c.args.draft.now.pages.items (g.V.PageView.image c.args.view.now)) (at_page (λ bytes. g.F.PageForm.has_no_room c.args.form.now bytes c.args.x.now) c.args.draft.now.pages.items (g.V.PageView.image c.args.view.now)) (g.F.PageForm.node c.args.top.now c.args.root.now) (λ key. g.F.PageForm.is_full c.args.top.now c.args.root.now × g.F.PageForm.has_no_place c.args.top.now c.args.root.now key)) c.in-Ok-Down.place c.in-Ok-Down.page c.in-Err-add_below.e leads (c.in-Err-add_below.ensures.way tells)

pub returns-in-Ok-clause-way : goal.returns-in-Ok-clause-way
returns-in-Ok-clause-way g c tells =
    let leads = subst (λ w. Leads g.F.PageForm.scale c.args.x.now (g.F.PageForm.node c.args.top.now c.args.root.now) (Ok w)) c.in-Ok-Down.field-0-is c.in-Ok-Down.ensures.way in
    adding_grown g.F.PageForm.scale (nodes (g.F.PageForm.node c.args.form.now) c.args.draft.now.pages.items (g.V.PageView.image c.args.view.now)) c.args.x.now (at_page (g.F.PageForm.is_full c.args.form.now) c.args.draft.now.pages.items (g.V.PageView.image c.args.view.now)) (at_page (λ bytes. g.F.PageForm.has_no_room c.args.form.now bytes c.args.x.now) c.args.draft.now.pages.items (g.V.PageView.image c.args.view.now)) (g.F.PageForm.node c.args.top.now c.args.root.now) (λ key. g.F.PageForm.is_full c.args.top.now c.args.root.now × g.F.PageForm.has_no_place c.args.top.now c.args.root.now key) c.in-Ok-Down.place c.in-Ok-Down.page c.in-Ok.grown.levels c.in-Ok.grown c.in-Ok.grown.sibling c.args.fresh.now.items c.add_below.new.fresh.items c.root_takes_grown.result refl
    c.way.ensures.rise leads (c.in-Ok.ensures.way tells) (c.in-Ok.ensures.room tells) c.in-Ok.ensures.used.1 c.root_takes_grown.ensures.clash

pub returns-in-Ok-Here-clause-framed : goal.returns-in-Ok-Here-clause-framed
returns-in-Ok-Here-clause-framed g c tells =
    here_always_framed g.F.PageForm.scale c.args.x.now (g.F.PageForm.frame c.args.form.now) (g.F.PageForm.new_frame c.args.form.now) (nodes (g.F.PageForm.node c.args.form.now) c.args.draft.now.pages.items (g.V.PageView.image c.args.view.now)) (g.F.PageForm.node c.args.top.now c.args.root.now) (g.V.PageView.image c.args.view.now)
    c.args.draft.now.pages.items c.root_takes_here.new.draft.pages.items c.args.fresh.now.items c.root_takes_here.new.fresh.items c.root_takes_here.result c.root_takes_here.ensures.keeps c.root_takes_here.ensures.names

pub returns-in-Ok-clause-framed : goal.returns-in-Ok-clause-framed
returns-in-Ok-clause-framed g c tells =
    let leads = subst (λ w. Leads g.F.PageForm.scale c.args.x.now (g.F.PageForm.node c.args.top.now c.args.root.now) (Ok w)) c.in-Ok-Down.field-0-is c.in-Ok-Down.ensures.way in
    always_framed g.F.PageForm.scale c.args.x.now (g.F.PageForm.frame c.args.form.now) (g.F.PageForm.new_frame c.args.form.now) (g.F.PageForm.node c.args.form.now) g.met.F.PageForm.order (g.V.PageView.image c.args.view.now) (g.F.PageForm.node c.args.top.now c.args.root.now) c.args.draft.now.pages.items c.add_below.new.draft.pages.items c.root_takes_grown.new.draft.pages.items
    c.in-Ok-Down.place c.in-Ok-Down.page c.in-Ok.grown.levels (g.V.PageView.block_count c.args.view.now) c.args.fresh.now.items c.add_below.new.fresh.items c.root_takes_grown.new.fresh.items c.in-Ok.grown.sibling c.root_takes_grown.result
    c.requires.within (let h = c.blocks-blocks.ensures in let i = c.blocks-blocks.type_inv in omega (arith, h, i)) leads (c.in-Ok.ensures.grew tells) (c.in-Ok.ensures.framed tells) c.root_takes_grown.ensures.keeps c.root_takes_grown.ensures.names c.in-Ok.ensures.front c.root_takes_grown.ensures.front

pub returns-in-Ok-Here-clause-apart : goal.returns-in-Ok-Here-clause-apart
returns-in-Ok-Here-clause-apart g c tells =
    let leads = subst (λ w. Leads g.F.PageForm.scale c.args.x.now (g.F.PageForm.node c.args.top.now c.args.root.now) (Ok w)) c.in-Ok-Here.field-0-is c.in-Ok-Here.ensures.way in
    root_apart g.F.PageForm.scale c.args.x.now (nodes (g.F.PageForm.node c.args.form.now) c.args.draft.now.pages.items (g.V.PageView.image c.args.view.now)) (g.F.PageForm.node c.args.top.now c.args.root.now) leads.0 c.root_takes_here.result leads.1 c.root_takes_here.ensures.apart

pub returns-in-Ok-clause-apart : goal.returns-in-Ok-clause-apart
returns-in-Ok-clause-apart g c tells =
    let leads = subst (λ w. Leads g.F.PageForm.scale c.args.x.now (g.F.PageForm.node c.args.top.now c.args.root.now) (Ok w)) c.in-Ok-Down.field-0-is c.in-Ok-Down.ensures.way in
    root_leads_apart g.F.PageForm.scale c.args.x.now (nodes (g.F.PageForm.node c.args.form.now) c.args.draft.now.pages.items (g.V.PageView.image c.args.view.now)) (g.F.PageForm.node c.args.top.now c.args.root.now) c.in-Ok-Down.place c.in-Ok-Down.page c.root_takes_grown.result leads (c.in-Ok.ensures.apart tells)

pub returns-in-Ok-clause-drafted : goal.returns-in-Ok-clause-drafted
returns-in-Ok-clause-drafted g c =
    drafts_then c.args.draft.now.pages.items c.add_below.new.draft.pages.items c.root_takes_grown.new.draft.pages.items c.args.fresh.now.items c.add_below.new.fresh.items c.root_takes_grown.new.fresh.items c.root_takes_grown.result c.in-Ok.ensures.drafted c.root_takes_grown.ensures.drafted
