use Rattle.std.proofs.Common.{true, false, ◌-◌, ◌∙◌, ap, sym, subst, length, take}
use Rattle.std.specs.Prelude.{reverse}
use Rattle.jfs_tree.specs.Call.{nodes}
use Rattle.jfs_tree.specs.Room.{GrowsLevel, at_page}
use Rattle.jfs_tree.specs.Form.{AllBelow}
use Rattle.jfs_disk.specs.Image.{page_of}
use Rattle.jfs_tree.specs.Fresh.{allocs_of, blocks_of}
use Rattle.jfs_tree.proofs.Changed.{changes_as, taken_changes}
use Rattle.jfs_tree.proofs.Runs.{below_reverse, left_named, taken_named}
use Rattle.jfs_tree.proofs.Adds.{refuses_as, adds_told, levels_told, told_as, ok_maps, full_as, takes_as}
use Rattle.jfs_tree.proofs.FilledRoots.{any_told, appended_told, least_told}
use Rattle.jfs_tree.proofs.Refusing.{tells_refused, tells_planned}
use Rattle.jfs_tree.proofs.Framing.{framed_told}
use Rattle.jfs_tree.proofs.Clearing.{planned_apart}
use Rattle.jfs_tree.specs.Taken.{AreDrafted}
use Rattle.jfs_tree.proofs.Drafts.{are_drafted}
use Rattle.jfs_tree.proofs.add_told.plan.Goals as goal

pub add_linked-requires-clause-within : goal.add_linked-requires-clause-within
add_linked-requires-clause-within g c =
    subst (AllBelow (g.V.PageView.block_count c.args.view.now)) (sym (c.reversed-stack.ensures ∙ ap reverse c.in-Ok-blocks_of.ensures)) (below_reverse (g.V.PageView.block_count c.args.view.now) (blocks_of c.args.fresh.now) c.requires.within)

pub returns-in-Err-clause-refused : goal.returns-in-Err-clause-refused
returns-in-Err-clause-refused g c tells =
    refuses_as g.F.PageForm.scale c.args.x.now (g.F.PageForm.node c.args.form.now) (g.V.PageView.image c.args.view.now) (g.F.PageForm.node c.args.top.now c.args.root.now) c.reversed-stack.result.items (blocks_of c.args.fresh.now) c.new-draft.result.pages.items c.in-Err.e
    (c.reversed-stack.ensures ∙ ap reverse c.in-Ok-blocks_of.ensures) c.new-draft.ensures (c.in-Err.ensures.refused tells)

pub returns-clause-adds : goal.returns-clause-adds
returns-clause-adds g c tells =
    let blocks = g.V.PageView.block_count c.args.view.now in
    let image = g.V.PageView.image c.args.view.now in
    ok_maps c.finish.result (c.finish.ensures.told tells) c.finish.ensures.rest (λ p told rest.
    adds_told g.F.PageForm.scale c.args.x.now (g.F.PageForm.node c.args.form.now) blocks image (g.F.PageForm.node c.args.top.now c.args.root.now) (g.F.PageForm.node c.args.top.now c.add_linked.new.root)
    c.new-draft.result.pages.items c.add_linked.new.draft.pages.items (blocks_of c.args.fresh.now) (blocks_of p.fresh) c.reversed-stack.result.items c.add_linked.new.fresh.items c.args.tx.now p.tx
    (c.requires.children c.add_linked.new.root).0 (λ bytes. (c.requires.children bytes).1) c.new-draft.ensures (c.in_default-add_linked.ensures.adds tells) (c.in_default-add_linked.ensures.keeps tells)
    (told_as (g.V.PageView.block_count c.add_linked.new.view) blocks (g.V.PageView.image c.add_linked.new.view) image c.add_linked.new.draft.pages.items c.args.tx.now p.tx c.add_linked.ensures.count_of_blocks (c.add_linked.ensures.image tells) told)
    (c.reversed-stack.ensures ∙ ap reverse c.in-Ok-blocks_of.ensures)
    (left_named (blocks_of c.args.fresh.now) c.as_slice-2.result.now c.reversed-stack.result.items c.add_linked.new.fresh.items (blocks_of p.fresh) c.len.result
    (c.as_slice-2.ensures.value ∙ c.in-Ok.ensures) (c.len.ensures ∙ c.add_linked.new.fresh.ok.0) (c.reversed-stack.ensures ∙ ap reverse c.in-Ok-blocks_of.ensures) c.add_linked.ensures.front rest))

pub returns-clause-levels : goal.returns-clause-levels
returns-clause-levels g c tells =
    let blocks = g.V.PageView.block_count c.args.view.now in
    let image = g.V.PageView.image c.args.view.now in
    ok_maps c.finish.result (c.finish.ensures.told tells) c.finish.ensures.rest (λ p told rest.
    levels_told g.F.PageForm.scale c.args.x.now (g.F.PageForm.node c.args.form.now) blocks image (g.F.PageForm.node c.args.top.now c.args.root.now) (g.F.PageForm.node c.args.top.now c.add_linked.new.root)
    (g.F.PageForm.is_full c.args.form.now) (λ bytes. g.F.PageForm.has_no_room c.args.form.now bytes c.args.x.now)
    (g.F.PageForm.is_full c.args.top.now c.args.root.now × g.F.PageForm.has_no_room c.args.top.now c.args.root.now c.args.x.now)
    (λ key. g.F.PageForm.is_full c.args.top.now c.args.root.now × g.F.PageForm.has_no_place c.args.top.now c.args.root.now key)
    c.new-draft.result.pages.items c.add_linked.new.draft.pages.items (blocks_of c.args.fresh.now) c.reversed-stack.result.items c.args.tx.now p.tx tt
    (c.requires.children c.add_linked.new.root).0 (λ bytes. (c.requires.children bytes).1) c.new-draft.ensures (c.in_default-add_linked.ensures.levels tells)
    (told_as (g.V.PageView.block_count c.add_linked.new.view) blocks (g.V.PageView.image c.add_linked.new.view) image c.add_linked.new.draft.pages.items c.args.tx.now p.tx c.add_linked.ensures.count_of_blocks (c.add_linked.ensures.image tells) told)
    (c.reversed-stack.ensures ∙ ap reverse c.in-Ok-blocks_of.ensures))

pub returns-clause-taken : goal.returns-clause-taken
returns-clause-taken g c =
    ok_maps c.finish.result c.finish.ensures.rest c.finish.ensures.allocs (λ p rest ends.
    taken_named (blocks_of c.args.fresh.now) c.as_slice-2.result.now (blocks_of p.fresh) (length c.as_slice-2.result.now - c.len.result) c.args.tx.now p.tx (c.as_slice-2.ensures.value ∙ c.in-Ok.ensures) rest ends)

pub returns-clause-edits : goal.returns-clause-edits
returns-clause-edits g c tells =
    let blocks = g.V.PageView.block_count c.args.view.now in
    let image = g.V.PageView.image c.args.view.now in
    let taken = take (length c.as_slice-2.result.now - c.len.result) c.as_slice-2.result.now in
    ok_maps c.finish.result c.finish.ensures.rest (c.finish.ensures.edits tells) (λ p rest edits.
    taken_changes blocks c.args.kind (page_of image) (blocks_of c.args.fresh.now) c.as_slice-2.result.now (blocks_of p.fresh) (length c.as_slice-2.result.now - c.len.result) c.args.tx.now p.tx (c.as_slice-2.ensures.value ∙ c.in-Ok.ensures) rest
    (changes_as (g.V.PageView.block_count c.add_linked.new.view) blocks c.args.kind (g.V.PageView.image c.add_linked.new.view) image taken (allocs_of taken) c.args.tx.now p.tx c.add_linked.ensures.count_of_blocks (c.add_linked.ensures.image tells) edits))

pub returns-in-Err-clause-full : goal.returns-in-Err-clause-full
returns-in-Err-clause-full g c tells =
    full_as g.F.PageForm.scale c.args.x.now (g.F.PageForm.node c.args.form.now) (g.V.PageView.image c.args.view.now) (g.F.PageForm.node c.args.top.now c.args.root.now) (g.F.PageForm.node c.args.top.now c.add_linked.new.root)
    (g.F.PageForm.is_full c.args.form.now) (λ bytes. g.F.PageForm.has_no_room c.args.form.now bytes c.args.x.now)
    (g.F.PageForm.is_full c.args.top.now c.args.root.now × g.F.PageForm.has_no_room c.args.top.now c.args.root.now c.args.x.now)
    (λ key. g.F.PageForm.is_full c.args.top.now c.args.root.now × g.F.PageForm.has_no_place c.args.top.now c.args.root.now key)
    c.reversed-stack.result.items (blocks_of c.args.fresh.now) c.new-draft.result.pages.items c.add_linked.new.draft.pages.items
    (GrowsLevel g.F.PageForm.scale c.args.x.now (nodes (g.F.PageForm.node c.args.form.now) c.new-draft.result.pages.items (g.V.PageView.image c.args.view.now)) (at_page (g.F.PageForm.is_full c.args.form.now) c.new-draft.result.pages.items (g.V.PageView.image c.args.view.now)) (at_page (λ bytes. g.F.PageForm.has_no_room c.args.form.now bytes c.args.x.now) c.new-draft.result.pages.items (g.V.PageView.image c.args.view.now))
    (g.F.PageForm.node c.args.top.now c.args.root.now) (g.F.PageForm.is_full c.args.top.now c.args.root.now × g.F.PageForm.has_no_room c.args.top.now c.args.root.now c.args.x.now) (λ key. g.F.PageForm.is_full c.args.top.now c.args.root.now × g.F.PageForm.has_no_place c.args.top.now c.args.root.now key)
    (g.F.PageForm.node c.args.top.now c.add_linked.new.root) (nodes (g.F.PageForm.node c.args.form.now) c.add_linked.new.draft.pages.items (g.V.PageView.image c.args.view.now))) c.in-Err.e
    (c.reversed-stack.ensures ∙ ap reverse c.in-Ok-blocks_of.ensures) c.new-draft.ensures (c.in-Err.ensures.levels tells)

pub returns-clause-room : goal.returns-clause-room
returns-clause-room g c tells =
    ok_maps c.finish.result c.finish.ensures.rest c.finish.ensures.rest (λ p rest again.
    takes_as g.F.PageForm.scale c.args.x.now (g.F.PageForm.node c.args.form.now) (g.V.PageView.image c.args.view.now) (g.F.PageForm.node c.args.top.now c.args.root.now)
    (g.F.PageForm.is_full c.args.form.now) (λ bytes. g.F.PageForm.has_no_room c.args.form.now bytes c.args.x.now)
    (g.F.PageForm.is_full c.args.top.now c.args.root.now × g.F.PageForm.has_no_room c.args.top.now c.args.root.now c.args.x.now)
    (λ key. g.F.PageForm.is_full c.args.top.now c.args.root.now × g.F.PageForm.has_no_place c.args.top.now c.args.root.now key)
    (blocks_of c.args.fresh.now) (blocks_of p.fresh) c.reversed-stack.result.items c.add_linked.new.fresh.items c.new-draft.result.pages.items c.new-draft.ensures
    (c.reversed-stack.ensures ∙ ap reverse c.in-Ok-blocks_of.ensures)
    (left_named (blocks_of c.args.fresh.now) c.as_slice-2.result.now c.reversed-stack.result.items c.add_linked.new.fresh.items (blocks_of p.fresh) c.len.result
    (c.as_slice-2.ensures.value ∙ c.in-Ok.ensures) (c.len.ensures ∙ c.add_linked.new.fresh.ok.0) (c.reversed-stack.ensures ∙ ap reverse c.in-Ok-blocks_of.ensures) c.add_linked.ensures.front rest)
    (c.in_default-add_linked.ensures.taken tells))

pub returns-clause-thin : goal.returns-clause-thin
returns-clause-thin g c least fills tells =
    let blocks = g.V.PageView.block_count c.args.view.now in
    let image = g.V.PageView.image c.args.view.now in
    ok_maps c.finish.result (c.finish.ensures.told tells) c.finish.ensures.rest (λ p told rest.
    any_told least g.F.PageForm.scale (g.F.PageForm.node c.args.form.now) blocks (page_of image) c.args.x.now (g.F.PageForm.node c.args.top.now c.args.root.now) (g.F.PageForm.node c.args.top.now c.add_linked.new.root) (blocks_of c.args.fresh.now) c.args.tx.now p.tx
    (least_told false least g.F.PageForm.scale g.met.F.PageForm.order c.args.x.now (g.F.PageForm.node c.args.form.now) blocks image (g.F.PageForm.node c.args.top.now c.args.root.now) (g.F.PageForm.node c.args.top.now c.add_linked.new.root)
    c.new-draft.result.pages.items c.add_linked.new.draft.pages.items (blocks_of c.args.fresh.now) c.reversed-stack.result.items c.add_linked.new.fresh.items c.args.tx.now p.tx
    (c.requires.children c.add_linked.new.root).0 (λ bytes. (c.requires.children bytes).1) c.new-draft.ensures (c.in_default-add_linked.ensures.adds tells) (c.in_default-add_linked.ensures.filled false least fills tells)
    (told_as (g.V.PageView.block_count c.add_linked.new.view) blocks (g.V.PageView.image c.add_linked.new.view) image c.add_linked.new.draft.pages.items c.args.tx.now p.tx c.add_linked.ensures.count_of_blocks (c.add_linked.ensures.image tells) told)
    (c.reversed-stack.ensures ∙ ap reverse c.in-Ok-blocks_of.ensures)))

pub returns-clause-appends : goal.returns-clause-appends
returns-clause-appends g c least fills tells =
    let blocks = g.V.PageView.block_count c.args.view.now in
    let image = g.V.PageView.image c.args.view.now in
    ok_maps c.finish.result (c.finish.ensures.told tells) c.finish.ensures.rest (λ p told rest.
    appended_told least g.F.PageForm.scale (g.F.PageForm.node c.args.form.now) blocks (page_of image) c.args.x.now (g.F.PageForm.node c.args.top.now c.args.root.now) (g.F.PageForm.node c.args.top.now c.add_linked.new.root) (blocks_of c.args.fresh.now) c.args.tx.now p.tx
    (least_told true least g.F.PageForm.scale g.met.F.PageForm.order c.args.x.now (g.F.PageForm.node c.args.form.now) blocks image (g.F.PageForm.node c.args.top.now c.args.root.now) (g.F.PageForm.node c.args.top.now c.add_linked.new.root)
    c.new-draft.result.pages.items c.add_linked.new.draft.pages.items (blocks_of c.args.fresh.now) c.reversed-stack.result.items c.add_linked.new.fresh.items c.args.tx.now p.tx
    (c.requires.children c.add_linked.new.root).0 (λ bytes. (c.requires.children bytes).1) c.new-draft.ensures (c.in_default-add_linked.ensures.adds tells) (c.in_default-add_linked.ensures.filled true least fills tells)
    (told_as (g.V.PageView.block_count c.add_linked.new.view) blocks (g.V.PageView.image c.add_linked.new.view) image c.add_linked.new.draft.pages.items c.args.tx.now p.tx c.add_linked.ensures.count_of_blocks (c.add_linked.ensures.image tells) told)
    (c.reversed-stack.ensures ∙ ap reverse c.in-Ok-blocks_of.ensures)))

pub returns-in-Err-clause-way : goal.returns-in-Err-clause-way
returns-in-Err-clause-way g c tells =
    tells_refused g.F.PageForm.scale (g.F.PageForm.node c.args.form.now) (g.V.PageView.image c.args.view.now) c.args.x.now (g.F.PageForm.node c.args.top.now c.args.root.now) (g.F.PageForm.is_full c.args.form.now) (λ bytes. g.F.PageForm.has_no_room c.args.form.now bytes c.args.x.now) (λ key. g.F.PageForm.is_full c.args.top.now c.args.root.now × g.F.PageForm.has_no_place c.args.top.now c.args.root.now key) c.new-draft.result.pages.items c.new-draft.ensures c.in-Err.e (c.in-Err.ensures.way tells)

pub returns-clause-way : goal.returns-clause-way
returns-clause-way g c tells =
    tells_planned g.F.PageForm.scale (g.F.PageForm.node c.args.form.now) (g.V.PageView.image c.args.view.now) c.args.x.now (g.F.PageForm.node c.args.top.now c.args.root.now) (g.F.PageForm.is_full c.args.form.now) (λ bytes. g.F.PageForm.has_no_room c.args.form.now bytes c.args.x.now) (λ key. g.F.PageForm.is_full c.args.top.now c.args.root.now × g.F.PageForm.has_no_place c.args.top.now c.args.root.now key) c.new-draft.result.pages.items c.new-draft.ensures tt c.finish.result (c.in_default-add_linked.ensures.way tells) c.finish.ensures.read

pub returns-clause-framed : goal.returns-clause-framed
returns-clause-framed g c tells =
    let blocks = g.V.PageView.block_count c.args.view.now in
    let image = g.V.PageView.image c.args.view.now in
    ok_maps c.finish.result (c.finish.ensures.told tells) c.finish.ensures.rest (λ p told rest.
    framed_told g.F.PageForm.scale c.args.x.now (g.F.PageForm.frame c.args.form.now) (g.F.PageForm.new_frame c.args.form.now) (g.F.PageForm.node c.args.form.now) blocks image (g.F.PageForm.node c.args.top.now c.args.root.now)
    c.new-draft.result.pages.items c.add_linked.new.draft.pages.items (blocks_of c.args.fresh.now) (blocks_of p.fresh) c.reversed-stack.result.items c.add_linked.new.fresh.items c.args.tx.now p.tx
    c.new-draft.ensures (c.in_default-add_linked.ensures.framed tells)
    (told_as (g.V.PageView.block_count c.add_linked.new.view) blocks (g.V.PageView.image c.add_linked.new.view) image c.add_linked.new.draft.pages.items c.args.tx.now p.tx c.add_linked.ensures.count_of_blocks (c.add_linked.ensures.image tells) told)
    (c.reversed-stack.ensures ∙ ap reverse c.in-Ok-blocks_of.ensures)
    (left_named (blocks_of c.args.fresh.now) c.as_slice-2.result.now c.reversed-stack.result.items c.add_linked.new.fresh.items (blocks_of p.fresh) c.len.result
    (c.as_slice-2.ensures.value ∙ c.in-Ok.ensures) (c.len.ensures ∙ c.add_linked.new.fresh.ok.0) (c.reversed-stack.ensures ∙ ap reverse c.in-Ok-blocks_of.ensures) c.add_linked.ensures.front rest))

pub returns-clause-apart : goal.returns-clause-apart
returns-clause-apart g c tells =
    planned_apart g.F.PageForm.scale c.args.x.now (g.F.PageForm.node c.args.form.now) (g.V.PageView.image c.args.view.now) (g.F.PageForm.node c.args.top.now c.args.root.now) c.new-draft.result.pages.items c.finish.result c.new-draft.ensures (c.in_default-add_linked.ensures.apart tells)

pub finish-requires-clause-drafted : goal.finish-requires-clause-drafted
finish-requires-clause-drafted g c =
    subst (λ b. AreDrafted b c.add_linked.new.draft.pages.items (take (length c.as_slice-2.result.now - c.len.result) c.as_slice-2.result.now)) (sym c.in_default-add_linked.ensures.count_of_blocks)
    (are_drafted (g.V.PageView.block_count c.args.view.now) c.add_linked.new.draft.pages.items (blocks_of c.args.fresh.now) c.as_slice-2.result.now c.reversed-stack.result.items c.add_linked.new.fresh.items c.len.result
    (c.as_slice-2.ensures.value ∙ c.in-Ok.ensures) (c.len.ensures ∙ c.add_linked.new.fresh.ok.0) (c.reversed-stack.ensures ∙ ap reverse c.in-Ok-blocks_of.ensures) c.add_linked.ensures.front c.requires.within c.in_default-add_linked.ensures.drafted.takes)
