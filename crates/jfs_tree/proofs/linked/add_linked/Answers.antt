use Rattle.std.proofs.Common.{sym, subst, arith, Ok}
use Rattle.jfs_tree.specs.Call.{nodes}
use Rattle.jfs_tree.specs.Filled.{FillsAlways}
use Rattle.jfs_tree.specs.Room.{GrowsLevel, FullFrom, LevelsWhereFull, at_page}
use Rattle.jfs_tree.specs.Root.{AddsAlways}
use Rattle.jfs_tree.proofs.Linkings.{same_nodes, adds_kept, refuses_read, refusal_read, levels_read}
use Rattle.jfs_tree.proofs.Framing.{linked_framed}
use Rattle.jfs_tree.proofs.Drafts.{drafts_linked}
use Rattle.jfs_tree.proofs.linked.add_linked.Goals as goal

pub returns-in-Ok-link_taken-clause-adds : goal.returns-in-Ok-link_taken-clause-adds
returns-in-Ok-link_taken-clause-adds g c = λ tells.
    let node = g.F.PageForm.node c.args.form.now in
    let image = g.V.PageView.image c.args.view.now in
    subst (λ f. AddsAlways g.F.PageForm.scale c.args.x.now (nodes node c.args.draft.now.pages.items image) f (g.F.PageForm.node c.args.top.now c.args.root.now) (g.F.PageForm.node c.args.top.now c.add_entry.new.root) c.args.fresh.now.items c.add_entry.new.fresh.items)
    (sym (same_nodes node (g.F.PageForm.frame c.args.form.now) image (g.V.PageView.image c.add_entry.new.view) c.add_entry.new.draft.pages.items c.link_taken.new.draft.pages.items (g.F.PageForm.node c.args.top.now c.add_entry.new.root) (c.in-Ok.ensures.image tells) (c.in-Ok-link_taken.ensures.links tells))) (c.in-Ok.ensures.adds tells)

pub returns-in-Ok-link_taken-clause-filled : goal.returns-in-Ok-link_taken-clause-filled
returns-in-Ok-link_taken-clause-filled g c = λ appends least fills tells.
    let node = g.F.PageForm.node c.args.form.now in
    let image = g.V.PageView.image c.args.view.now in
    subst (λ f. FillsAlways appends least g.F.PageForm.scale c.args.x.now (nodes node c.args.draft.now.pages.items image) f (g.F.PageForm.node c.args.top.now c.args.root.now) (g.F.PageForm.node c.args.top.now c.add_entry.new.root) c.args.fresh.now.items)
    (sym (same_nodes node (g.F.PageForm.frame c.args.form.now) image (g.V.PageView.image c.add_entry.new.view) c.add_entry.new.draft.pages.items c.link_taken.new.draft.pages.items (g.F.PageForm.node c.args.top.now c.add_entry.new.root) (c.in-Ok.ensures.image tells) (c.in-Ok-link_taken.ensures.links tells))) (c.in-Ok.ensures.filled appends least fills tells)

pub returns-in-Ok-link_taken-clause-levels : goal.returns-in-Ok-link_taken-clause-levels
returns-in-Ok-link_taken-clause-levels g c = λ tells.
    let node = g.F.PageForm.node c.args.form.now in
    let image = g.V.PageView.image c.args.view.now in
    let old = nodes node c.args.draft.now.pages.items image in
    let full = at_page (g.F.PageForm.is_full c.args.form.now) c.args.draft.now.pages.items image in
    let less = at_page (λ bytes. g.F.PageForm.has_no_room c.args.form.now bytes c.args.x.now) c.args.draft.now.pages.items image in
    let top = g.F.PageForm.is_full c.args.top.now c.args.root.now × g.F.PageForm.has_no_room c.args.top.now c.args.root.now c.args.x.now in
    let root = g.F.PageForm.node c.args.top.now c.args.root.now in
    let after = g.F.PageForm.node c.args.top.now c.add_entry.new.root in
    subst (λ f. LevelsWhereFull g.F.PageForm.scale c.args.x.now old f root after c.args.fresh.now.items (GrowsLevel g.F.PageForm.scale c.args.x.now old full less root top (λ key. g.F.PageForm.is_full c.args.top.now c.args.root.now × g.F.PageForm.has_no_place c.args.top.now c.args.root.now key) after f) (FullFrom g.F.PageForm.scale c.args.x.now old full less root top (λ key. g.F.PageForm.is_full c.args.top.now c.args.root.now × g.F.PageForm.has_no_place c.args.top.now c.args.root.now key)) (Ok c.in-Ok.field-0))
    (sym (same_nodes node (g.F.PageForm.frame c.args.form.now) image (g.V.PageView.image c.add_entry.new.view) c.add_entry.new.draft.pages.items c.link_taken.new.draft.pages.items after (c.in-Ok.ensures.image tells) (c.in-Ok-link_taken.ensures.links tells))) (c.in-Ok.ensures.levels tells)

pub returns-in-Ok-link_taken-clause-keeps : goal.returns-in-Ok-link_taken-clause-keeps
returns-in-Ok-link_taken-clause-keeps g c = λ tells.
    adds_kept (g.F.PageForm.node c.args.form.now) (g.F.PageForm.frame c.args.form.now) g.F.PageForm.scale g.met.F.PageForm.order c.args.x.now (g.V.PageView.image c.args.view.now) (g.V.PageView.image c.add_entry.new.view) c.args.draft.now.pages.items c.add_entry.new.draft.pages.items c.link_taken.new.draft.pages.items
    (g.F.PageForm.node c.args.top.now c.args.root.now) (g.F.PageForm.node c.args.top.now c.add_entry.new.root) c.args.fresh.now.items c.add_entry.new.fresh.items (g.V.PageView.block_count c.args.view.now)
    (c.in-Ok.ensures.image tells) (let e = c.blocks-blocks.ensures in let l = c.blocks-blocks.type_inv in omega (arith, e, l)) (c.requires.children c.add_entry.new.root).0 (λ bytes. (c.requires.children bytes).1)
    (c.in-Ok-link_taken.ensures.links tells) (c.in-Ok.ensures.adds tells) (c.in-Ok.ensures.keeps tells)

pub returns-in-Err-link_taken-clause-refused : goal.returns-in-Err-link_taken-clause-refused
returns-in-Err-link_taken-clause-refused g c = λ tells.
    refuses_read g.F.PageForm.scale c.args.x.now (nodes (g.F.PageForm.node c.args.form.now) c.args.draft.now.pages.items (g.V.PageView.image c.args.view.now)) (g.F.PageForm.node c.args.top.now c.args.root.now) c.args.fresh.now.items c.in-Err-link_taken.e c.in-Err-link_taken.ensures.cause

pub returns-in-Err-link_taken-clause-levels : goal.returns-in-Err-link_taken-clause-levels
returns-in-Err-link_taken-clause-levels g c = λ tells.
    let node = g.F.PageForm.node c.args.form.now in
    let image = g.V.PageView.image c.args.view.now in
    let old = nodes node c.args.draft.now.pages.items image in
    let new = nodes node c.link_taken.new.draft.pages.items image in
    let full = at_page (g.F.PageForm.is_full c.args.form.now) c.args.draft.now.pages.items image in
    let less = at_page (λ bytes. g.F.PageForm.has_no_room c.args.form.now bytes c.args.x.now) c.args.draft.now.pages.items image in
    let top = g.F.PageForm.is_full c.args.top.now c.args.root.now × g.F.PageForm.has_no_room c.args.top.now c.args.root.now c.args.x.now in
    let root = g.F.PageForm.node c.args.top.now c.args.root.now in
    let after = g.F.PageForm.node c.args.top.now c.add_entry.new.root in
    levels_read g.F.PageForm.scale c.args.x.now old new root after c.args.fresh.now.items (GrowsLevel g.F.PageForm.scale c.args.x.now old full less root top (λ key. g.F.PageForm.is_full c.args.top.now c.args.root.now × g.F.PageForm.has_no_place c.args.top.now c.args.root.now key) after new) (FullFrom g.F.PageForm.scale c.args.x.now old full less root top (λ key. g.F.PageForm.is_full c.args.top.now c.args.root.now × g.F.PageForm.has_no_place c.args.top.now c.args.root.now key)) c.in-Err-link_taken.e c.in-Err-link_taken.ensures.cause

pub returns-in-Err-link_taken-clause-way : goal.returns-in-Err-link_taken-clause-way
returns-in-Err-link_taken-clause-way g c = λ tells. refusal_read _ _ _ c.in-Err-link_taken.e c.in-Err-link_taken.ensures.cause

pub returns-in-Ok-link_taken-clause-framed : goal.returns-in-Ok-link_taken-clause-framed
returns-in-Ok-link_taken-clause-framed g c = λ tells.
    linked_framed g.F.PageForm.scale c.args.x.now (g.F.PageForm.frame c.args.form.now) (g.F.PageForm.new_frame c.args.form.now) (g.F.PageForm.node c.args.form.now) (nodes (g.F.PageForm.node c.args.form.now) c.args.draft.now.pages.items (g.V.PageView.image c.args.view.now))
    (g.F.PageForm.node c.args.top.now c.args.root.now) (g.F.PageForm.node c.args.top.now c.add_entry.new.root) (g.V.PageView.image c.args.view.now) (g.V.PageView.image c.add_entry.new.view) c.args.draft.now.pages.items c.add_entry.new.draft.pages.items c.link_taken.new.draft.pages.items c.args.fresh.now.items c.add_entry.new.fresh.items
    (c.in-Ok.ensures.image tells) (c.in-Ok-link_taken.ensures.links tells) (c.in-Ok.ensures.framed tells)

pub returns-in-Ok-link_taken-clause-drafted : goal.returns-in-Ok-link_taken-clause-drafted
returns-in-Ok-link_taken-clause-drafted g c =
    drafts_linked c.args.draft.now.pages.items c.add_entry.new.draft.pages.items c.link_taken.new.draft.pages.items c.args.fresh.now.items c.add_entry.new.fresh.items c.in-Ok.ensures.drafted c.in-Ok-link_taken.ensures.drafted
