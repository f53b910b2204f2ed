use Rattle.std.proofs.Common.{ap, ◌∙◌}
use Rattle.std.specs.Prelude.{reverse}
use Rattle.jfs_tree.specs.Fresh.{blocks_of}
use Rattle.jfs_tree.proofs.Adds.{told_as, ok_maps}
use Rattle.jfs_put_range.proofs.RootRanges.{writes_range, writes_thick, refuses_deep}
use Rattle.std.specs.Prelude.{length}
use Rattle.jfs_xtree.specs.Spells.{root_form, root_node}
use Rattle.jfs_put_range.proofs.RootFrames.{names_pages}
use Rattle.jfs_put_range.proofs.RootNames.{named_as, read_names}
use Rattle.jfs_tree.proofs.Drafts.{taken_as}
use Rattle.jfs_put_range.proofs.call.plan_range.Goals as goal

pub returns-clause-writes : goal.returns-clause-writes
returns-clause-writes g c tells =
    let blocks = g.V.PageView.block_count c.args.view.now in
    let image = g.V.PageView.image c.args.view.now in
    ok_maps c.tell_steps.result (c.tell_steps.ensures.told tells) c.tell_steps.ensures.rest (λ p told rest.
    writes_range c.blocks-blocks.result blocks c.root_form-form.result image c.args.root.now c.new-draft.result.pages.items (blocks_of c.args.fresh.now) c.in-Ok.stack.items c.blocks-blocks.ensures c.root_form-form.ensures c.new-draft.ensures c.in-Ok.ensures.stack
    c.as_slice-2.result.now c.args.xs.now c.put_linked.new.root c.put_linked.new.draft.pages.items (blocks_of p.fresh) c.put_linked.new.stack.items c.args.tx.now p.tx c.as_slice-2.ensures (c.in_default-put_linked.ensures.steps tells)
    (told_as (g.V.PageView.block_count c.put_linked.new.view) blocks (g.V.PageView.image c.put_linked.new.view) image c.put_linked.new.draft.pages.items c.args.tx.now p.tx c.put_linked.ensures.count_of_blocks (c.put_linked.ensures.image tells) told)
    (rest ∙ ap reverse c.as_slice-3.ensures.value))

pub returns-in-Err-clause-refused : goal.returns-in-Err-clause-refused
returns-in-Err-clause-refused g c tells =
    refuses_deep c.blocks-blocks.result (g.V.PageView.block_count c.args.view.now) c.root_form-form.result (g.V.PageView.image c.args.view.now) c.args.root.now c.new-draft.result.pages.items (blocks_of c.args.fresh.now) c.in-Ok.stack.items
    c.blocks-blocks.ensures c.root_form-form.ensures c.new-draft.ensures c.in-Ok.ensures.stack c.in-Err.e (c.in-Err.ensures.refuses tells)

pub returns-clause-thin : goal.returns-clause-thin
returns-clause-thin g c tells =
    let blocks = g.V.PageView.block_count c.args.view.now in
    let image = g.V.PageView.image c.args.view.now in
    ok_maps c.tell_steps.result (c.tell_steps.ensures.told tells) c.tell_steps.ensures.rest (λ p told rest.
    writes_thick c.blocks-blocks.result blocks c.root_form-form.result image c.args.root.now c.new-draft.result.pages.items (blocks_of c.args.fresh.now) c.in-Ok.stack.items c.blocks-blocks.ensures c.root_form-form.ensures c.new-draft.ensures c.in-Ok.ensures.stack
    c.as_slice-2.result.now c.args.xs.now c.put_linked.new.root c.put_linked.new.draft.pages.items c.put_linked.new.stack.items c.args.tx.now p.tx c.as_slice-2.ensures (c.in_default-put_linked.ensures.steps tells) (c.in_default-put_linked.ensures.filled tells)
    (told_as (g.V.PageView.block_count c.put_linked.new.view) blocks (g.V.PageView.image c.put_linked.new.view) image c.put_linked.new.draft.pages.items c.args.tx.now p.tx c.put_linked.ensures.count_of_blocks (c.put_linked.ensures.image tells) told))

pub returns-in-Err-clause-names : goal.returns-in-Err-clause-names
returns-in-Err-clause-names g c =
    named_as c.blocks-blocks.result (g.V.PageView.block_count c.args.view.now) c.root_form-form.result (root_form (length c.args.root.now)) c.args.root.now c.in-Err.e c.blocks-blocks.ensures c.root_form-form.ensures c.in-Err.ensures.names

pub returns-clause-names : goal.returns-clause-names
returns-clause-names g c = read_names (root_node (g.V.PageView.block_count c.args.view.now) c.args.root.now) c.args.root.now c.tell_steps.result c.tell_steps.ensures.read

pub returns-clause-framed : goal.returns-clause-framed
returns-clause-framed g c tells =
    let blocks = g.V.PageView.block_count c.args.view.now in
    let image = g.V.PageView.image c.args.view.now in
    ok_maps c.tell_steps.result (c.tell_steps.ensures.told tells) c.tell_steps.ensures.rest (λ p told rest.
    names_pages c.blocks-blocks.result blocks c.root_form-form.result image c.args.root.now c.new-draft.result.pages.items c.put_linked.new.draft.pages.items (blocks_of c.args.fresh.now) c.in-Ok.stack.items (blocks_of p.fresh) c.put_linked.new.stack.items
    c.args.tx.now p.tx c.blocks-blocks.ensures c.root_form-form.ensures c.new-draft.ensures c.in-Ok.ensures.stack (rest ∙ ap reverse c.as_slice-3.ensures.value) (c.in_default-put_linked.ensures.framed tells) (c.in_default-put_linked.ensures.others tells)
    (told_as (g.V.PageView.block_count c.put_linked.new.view) blocks (g.V.PageView.image c.put_linked.new.view) image c.put_linked.new.draft.pages.items c.args.tx.now p.tx c.put_linked.ensures.count_of_blocks (c.put_linked.ensures.image tells) told))

pub tell_steps-requires-clause-drafted : goal.tell_steps-requires-clause-drafted
tell_steps-requires-clause-drafted g c =
    taken_as c.put_linked.new.draft.pages.items c.in-Ok.stack.items (reverse (blocks_of c.args.fresh.now)) c.put_linked.new.stack.items c.as_slice-3.result.now c.in-Ok.ensures.stack c.as_slice-3.ensures.value c.in_default-put_linked.ensures.drafted.takes
