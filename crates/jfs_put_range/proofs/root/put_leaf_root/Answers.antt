use Rattle.std.proofs.Common.{◌≤◌, ◌∙◌, refl, length, subst, sym, arith}
use Rattle.std.specs.List.{All}
use Rattle.jfs_bits.specs.Extent.{FitsXad}
use Rattle.jfs_put_range.proofs.LeafPages.{all_good, leaf_list}
use Rattle.jfs_put_range.proofs.Lists.{as_part, good_long, range_few}
use Rattle.jfs_put_range.proofs.RootRanges.{leaf_steps, leaf_fills}
use Rattle.jfs_xtree.specs.Node.{xt_node}
use Rattle.jfs_put_range.proofs.Framed.{root_others}
use Rattle.jfs_put_range.proofs.Pushing.{fewer_taken}
use Rattle.jfs_put_range.proofs.RootFrames.{leaf_frames}
use Rattle.jfs_put_range.proofs.RootNames.{leaf_named}
use Rattle.jfs_put_range.proofs.root.put_leaf_root.Goals as goal

pub written-requires-clause-entries_long : goal.written-requires-clause-entries_long
written-requires-clause-entries_long c =
    good_long c.args.top.now.blocks c.args.entries.now (all_good c.args.top.now.blocks c.args.entries.now c.requires.opened.range c.requires.opened.fits)

pub written-requires-clause-range_long : goal.written-requires-clause-range_long
written-requires-clause-range_long c = good_long c.args.top.now.blocks c.args.xs.now c.requires.range.range.good

pub store_root-requires-clause-most : goal.store_root-requires-clause-most
store_root-requires-clause-most c =
    subst (λ ys. length ys ≤ 254) (sym (c.as_slice.ensures.value ∙ c.in-Ok.ensures))
    (let n = range_few c.args.top.now.blocks c.args.xs.now c.args.entries.now c.requires.range c.requires.opened.order in let few = c.requires.opened.few in omega (arith, n, few))

pub store_root-requires-clause-fits : goal.store_root-requires-clause-fits
store_root-requires-clause-fits c =
    subst (All FitsXad) (sym (c.as_slice.ensures.value ∙ c.in-Ok.ensures))
    (leaf_list c.args.top.now.blocks c.args.xs.now c.args.entries.now (let s = c.requires.small in omega (arith, s)) (as_part c.args.top.now.blocks c.args.xs.now c.requires.range) c.requires.opened.order c.requires.opened.range c.requires.opened.fits).1

pub returns-clause-steps : goal.returns-clause-steps
returns-clause-steps c = λ image.
    leaf_steps c.args.top.now.form c.args.top.now.blocks image c.args.xs.now c.args.entries.now c.args.root.now c.store_root.new.root c.requires.form c.requires.range (let s = c.requires.small in omega (arith, s))
    c.as_slice.result.now c.args.draft.now.pages.items c.store_root.new.draft.pages.items c.args.stack.now.items c.store_root.new.stack.items c.store_root.result c.requires.opened c.requires.within c.store_root.ensures.front
    (c.as_slice.ensures.value ∙ c.in-Ok.ensures) c.store_root.ensures.settled c.store_root.ensures.keeps

pub returns-clause-filled : goal.returns-clause-filled
returns-clause-filled c = λ image.
    leaf_fills c.args.top.now.form c.args.top.now.blocks image c.args.xs.now c.args.entries.now c.args.root.now c.store_root.new.root c.requires.form c.requires.range (let s = c.requires.small in omega (arith, s))
    c.as_slice.result.now c.args.draft.now.pages.items c.store_root.new.draft.pages.items c.args.stack.now.items c.store_root.new.stack.items c.store_root.result c.requires.opened c.requires.within c.store_root.ensures.front
    (c.as_slice.ensures.value ∙ c.in-Ok.ensures) c.store_root.ensures.settled c.store_root.ensures.keeps

pub returns-clause-names : goal.returns-clause-names
returns-clause-names c =
    leaf_named (xt_node c.args.top.now.form c.args.top.now.blocks c.args.root.now) c.as_slice.result.now c.args.root.now c.store_root.new.root c.args.draft.now.pages.items c.store_root.new.draft.pages.items c.args.stack.now.items c.store_root.new.stack.items
    c.store_root.result c.store_root.ensures.stored

pub returns-clause-framed : goal.returns-clause-framed
returns-clause-framed c = λ image.
    leaf_frames c.args.top.now.form c.args.top.now.blocks image 1 c.as_slice.result.now c.args.root.now c.store_root.new.root c.args.draft.now.pages.items c.store_root.new.draft.pages.items c.args.stack.now.items c.store_root.new.stack.items
    c.store_root.result c.store_root.ensures.stored c.store_root.ensures.keeps

pub returns-clause-others : goal.returns-clause-others
returns-clause-others c = λ image.
    root_others c.args.draft.now.pages.items c.args.draft.now.pages.items c.store_root.new.draft.pages.items image c.args.stack.now.items c.args.stack.now.items c.store_root.new.stack.items c.store_root.result
    (λ m. omega arith) (λ m. fewer_taken m c.args.stack.now.items c.store_root.new.stack.items c.store_root.ensures.front) (λ n e. refl) c.store_root.ensures.keeps
