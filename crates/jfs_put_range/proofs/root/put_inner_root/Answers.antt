use Rattle.std.proofs.Common.{refl, arith}
use Rattle.jfs_put_range.proofs.RootRanges.{pushed_steps, pushed_fills, pushed_refuses, pushed_full}
use Rattle.jfs_tree.specs.Draft.{shown}
use Rattle.jfs_xtree.specs.Node.{xt_node}
use Rattle.jfs_put_range.proofs.Framed.{root_others}
use Rattle.jfs_put_range.proofs.Pushing.{fewer_taken}
use Rattle.jfs_put_range.proofs.RootFrames.{pushed_frames}
use Rattle.jfs_put_range.proofs.RootNames.{below_named, inner_named}
use Rattle.jfs_tree.proofs.Drafts.{drafts_then}
use Rattle.jfs_put_range.proofs.root.put_inner_root.Goals as goal

pub put_children-requires-clause-some : goal.put_children-requires-clause-some
put_children-requires-clause-some g c = c.requires.opened.some refl

pub returns-in-Ok-put_children-clause-steps : goal.returns-in-Ok-put_children-clause-steps
returns-in-Ok-put_children-clause-steps g c tells =
    pushed_steps c.args.top.now.form c.args.top.now.blocks (g.V.PageView.image c.args.view.now) c.args.xs.now c.args.entries.now c.args.root.now c.store_root.new.root c.requires.forms.1 c.requires.range (let s = c.requires.small in omega (arith, s))
    c.in-Ok.part.last g.V.PageView.tells (g.V.PageView.block_count c.args.view.now) c.in-Ok.part.xs.items c.in-Ok.part.left c.in-Ok.part.right c.new-list.result.items c.put_children.new.list.items c.as_slice.result.now
    c.args.draft.now.pages.items c.put_children.new.draft.pages.items c.store_root.new.draft.pages.items c.in-Ok-put_children.levels c.args.stack.now.items c.put_children.new.stack.items c.store_root.new.stack.items c.store_root.result
    c.requires.forms.0 c.in-Ok.ensures.0 c.in-Ok.ensures.1 c.in-Ok.ensures.2 c.in-Ok.ensures.3 c.new-list.ensures.items c.as_slice.ensures.value tells c.requires.opened c.requires.within c.put_children.ensures.front c.store_root.ensures.front
    c.in-Ok-put_children.ensures.pushed c.store_root.ensures.settled c.store_root.ensures.keeps

pub returns-clause-refuses : goal.returns-clause-refuses
returns-clause-refuses g c tells =
    pushed_refuses c.args.top.now.form c.args.top.now.blocks (g.V.PageView.image c.args.view.now) c.args.xs.now c.args.entries.now c.args.root.now c.args.root.now c.requires.forms.1 c.requires.range (let s = c.requires.small in omega (arith, s))
    (g.V.PageView.block_count c.args.view.now) c.in-Ok.part.xs.items c.in-Ok.part.left c.in-Ok.part.right c.args.draft.now.pages.items c.args.stack.now.items c.in-Err.e
    c.requires.forms.0 c.in-Ok.ensures.0 c.in-Ok.ensures.1 c.in-Ok.ensures.2 c.requires.opened c.requires.within (c.in-Err.ensures.bad tells)

pub returns-in-Ok-put_children-clause-refuses : goal.returns-in-Ok-put_children-clause-refuses
returns-in-Ok-put_children-clause-refuses g c tells =
    pushed_full c.args.top.now.form c.args.top.now.blocks (g.V.PageView.image c.args.view.now) c.args.xs.now c.args.entries.now c.args.root.now c.store_root.new.root c.requires.forms.1 c.requires.range (let s = c.requires.small in omega (arith, s))
    c.in-Ok.part.last g.V.PageView.tells (g.V.PageView.block_count c.args.view.now) c.in-Ok.part.xs.items c.in-Ok.part.left c.in-Ok.part.right c.new-list.result.items c.put_children.new.list.items c.as_slice.result.now
    c.args.draft.now.pages.items c.put_children.new.draft.pages.items c.store_root.new.draft.pages.items c.in-Ok-put_children.levels c.args.stack.now.items c.put_children.new.stack.items c.store_root.new.stack.items c.store_root.result
    c.requires.forms.0 c.in-Ok.ensures.0 c.in-Ok.ensures.1 c.in-Ok.ensures.2 c.in-Ok.ensures.3 c.new-list.ensures.items c.as_slice.ensures.value tells c.requires.opened c.requires.within c.put_children.ensures.front c.in-Ok-put_children.ensures.pushed c.store_root.ensures.stored

pub returns-in-Ok-put_children-clause-filled : goal.returns-in-Ok-put_children-clause-filled
returns-in-Ok-put_children-clause-filled g c tells =
    pushed_fills c.args.top.now.form c.args.top.now.blocks (g.V.PageView.image c.args.view.now) c.args.xs.now c.args.entries.now c.args.root.now c.store_root.new.root c.requires.forms.1 c.requires.range (let s = c.requires.small in omega (arith, s))
    c.in-Ok.part.last g.V.PageView.tells (g.V.PageView.block_count c.args.view.now) c.in-Ok.part.xs.items c.in-Ok.part.left c.in-Ok.part.right c.new-list.result.items c.put_children.new.list.items c.as_slice.result.now
    c.args.draft.now.pages.items c.put_children.new.draft.pages.items c.store_root.new.draft.pages.items c.in-Ok-put_children.levels c.args.stack.now.items c.put_children.new.stack.items c.store_root.new.stack.items c.store_root.result
    c.requires.forms.0 c.in-Ok.ensures.0 c.in-Ok.ensures.1 c.in-Ok.ensures.2 c.in-Ok.ensures.3 c.new-list.ensures.items c.as_slice.ensures.value tells c.requires.opened c.requires.within c.put_children.ensures.front c.store_root.ensures.front
    c.in-Ok-put_children.ensures.pushed c.store_root.ensures.settled c.store_root.ensures.keeps

pub returns-clause-names : goal.returns-clause-names
returns-clause-names g c = below_named (xt_node c.args.top.now.form c.args.top.now.blocks c.args.root.now) c.args.root.now c.in-Err.e c.in-Err.ensures.names

pub returns-in-Ok-put_children-clause-names : goal.returns-in-Ok-put_children-clause-names
returns-in-Ok-put_children-clause-names g c =
    inner_named c.args.top.now.form g.V.PageView.tells c.in-Ok.part.last c.args.top.now.blocks (g.V.PageView.block_count c.args.view.now) c.in-Ok.part.xs.items c.in-Ok.part.left c.in-Ok.part.right
    (shown c.args.draft.now.pages.items (g.V.PageView.image c.args.view.now)) (shown c.put_children.new.draft.pages.items (g.V.PageView.image c.args.view.now)) c.in-Ok-put_children.levels c.args.entries.now c.new-list.result.items c.put_children.new.list.items
    c.as_slice.result.now c.args.stack.now.items c.put_children.new.stack.items c.store_root.new.stack.items c.args.root.now c.store_root.new.root c.put_children.new.draft.pages.items c.store_root.new.draft.pages.items c.store_root.result
    c.requires.opened c.in-Ok-put_children.ensures.pushed c.new-list.ensures.items c.as_slice.ensures.value c.store_root.ensures.stored

pub returns-in-Ok-put_children-clause-framed : goal.returns-in-Ok-put_children-clause-framed
returns-in-Ok-put_children-clause-framed g c tells =
    pushed_frames c.args.top.now.form c.args.top.now.blocks (g.V.PageView.image c.args.view.now) c.args.xs.now c.args.entries.now c.args.root.now c.store_root.new.root c.requires.forms.1 c.requires.range (let s = c.requires.small in omega (arith, s))
    c.in-Ok.part.last g.V.PageView.tells (g.V.PageView.block_count c.args.view.now) c.in-Ok.part.xs.items c.in-Ok.part.left c.in-Ok.part.right c.new-list.result.items c.put_children.new.list.items c.as_slice.result.now
    c.args.draft.now.pages.items c.put_children.new.draft.pages.items c.store_root.new.draft.pages.items c.in-Ok-put_children.levels c.args.stack.now.items c.put_children.new.stack.items c.store_root.new.stack.items c.store_root.result
    c.requires.forms.0 c.in-Ok.ensures.0 c.in-Ok.ensures.1 c.in-Ok.ensures.2 c.in-Ok.ensures.3 tells c.requires.opened c.requires.within c.put_children.ensures.front c.store_root.ensures.front
    c.in-Ok-put_children.ensures.pushed c.store_root.ensures.stored c.store_root.ensures.keeps

pub returns-in-Ok-put_children-clause-others : goal.returns-in-Ok-put_children-clause-others
returns-in-Ok-put_children-clause-others g c tells =
    root_others c.args.draft.now.pages.items c.put_children.new.draft.pages.items c.store_root.new.draft.pages.items (g.V.PageView.image c.args.view.now) c.args.stack.now.items c.put_children.new.stack.items c.store_root.new.stack.items c.store_root.result
    (λ m. fewer_taken m c.args.stack.now.items c.put_children.new.stack.items c.put_children.ensures.front) (λ m. fewer_taken m c.put_children.new.stack.items c.store_root.new.stack.items c.store_root.ensures.front)
    (c.in-Ok-put_children.ensures.others tells) c.store_root.ensures.keeps

pub returns-in-Ok-put_children-clause-drafted : goal.returns-in-Ok-put_children-clause-drafted
returns-in-Ok-put_children-clause-drafted g c =
    drafts_then c.args.draft.now.pages.items c.put_children.new.draft.pages.items c.store_root.new.draft.pages.items c.args.stack.now.items c.put_children.new.stack.items c.store_root.new.stack.items c.store_root.result c.in-Ok-put_children.ensures.drafted c.store_root.ensures.drafted
