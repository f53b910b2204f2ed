use Rattle.std.proofs.Common.{◌≤◌, refl, sym, ap, subst, length, true, arith}
use Rattle.std.specs.List.{All}
use Rattle.jfs_bits.specs.Extent.{FitsXad}
use Rattle.jfs_bits.specs.declared.rule.Rule.TheVariants as rules
use Rattle.jfs_xtree.specs.Writing.{AllLong}
use Rattle.jfs_put_range.proofs.LeafPages.{leaf_wrote, leaf_refuted, leaf_few, leaf_list}
use Rattle.jfs_xtpage.specs.declared.head.XtForm.TheVariants.{Full}
use Rattle.jfs_xtree.specs.Node.{frame_of}
use Rattle.jfs_put_range.proofs.Framed.{stored_framed}
use Rattle.jfs_put_range.proofs.Finishing.{opened_long, part_long, list_done}
use Rattle.jfs_put_range.proofs.leaf.put_leaf.Goals as goal

pub written-requires-clause-entries_long : goal.written-requires-clause-entries_long
written-requires-clause-entries_long c = subst AllLong (sym c.as_slice.ensures.value) (opened_long c.args.blocks c.args.opened.page.0 c.args.opened.entries.items true c.requires.opened)

pub written-requires-clause-range_long : goal.written-requires-clause-range_long
written-requires-clause-range_long c = subst AllLong (sym c.as_slice-2.ensures.value) (part_long c.args.blocks c.args.part.now.xs.items c.requires.part)

pub returns-then-not-part-2-clause-bad : goal.returns-then-not-part-2-clause-bad
returns-then-not-part-2-clause-bad c = λ image most read.
    leaf_refuted c.args.blocks c.args.part.now.xs.items c.args.opened.entries.items c.in-Ok.list.items c.args.part.now.left c.args.part.now.right c.args.draft.now.pages.items image c.args.n most c.args.n rules.Order c.args.opened.page.0 c.args.stack.now.items
    c.requires.opened c.requires.part (list_done c.in-Ok.list.items c.in-Ok.list.items c.as_slice-2.result.now c.as_slice.result.now c.args.part.now.xs.items c.args.opened.entries.items refl c.in-Ok.ensures c.as_slice-2.ensures.value c.as_slice.ensures.value)
    read c.if-not-part.true c.if-not-part-2.true (let l = c.if-len-gt-ENTRIES.true in let e = c.len.ensures in omega (arith, l, e))

pub store-requires-clause-most : goal.store-requires-clause-most
store-requires-clause-most c =
    subst (λ ys. length ys ≤ 508) (sym (list_done c.as_slice-5.result.now c.in-Ok.list.items c.as_slice-2.result.now c.as_slice.result.now c.args.part.now.xs.items c.args.opened.entries.items c.as_slice-5.ensures.value c.in-Ok.ensures c.as_slice-2.ensures.value c.as_slice.ensures.value))
    (leaf_few c.args.blocks c.args.part.now.xs.items c.args.opened.entries.items c.requires.part c.requires.opened.order c.requires.opened.few)

pub store-requires-clause-fits : goal.store-requires-clause-fits
store-requires-clause-fits c =
    subst (All FitsXad) (sym (list_done c.as_slice-5.result.now c.in-Ok.list.items c.as_slice-2.result.now c.as_slice.result.now c.args.part.now.xs.items c.args.opened.entries.items c.as_slice-5.ensures.value c.in-Ok.ensures c.as_slice-2.ensures.value c.as_slice.ensures.value))
    (leaf_list c.args.blocks c.args.part.now.xs.items c.args.opened.entries.items (let s = c.requires.small in omega (arith, s)) c.requires.part c.requires.opened.order c.requires.opened.range c.requires.opened.fits).1

pub returns-in-Ok-store-clause-wrote : goal.returns-in-Ok-store-clause-wrote
returns-in-Ok-store-clause-wrote c = λ image read.
    leaf_wrote c.args.part.now.last c.starts_new-full.result c.args.blocks c.args.part.now.xs.items c.args.opened.entries.items c.as_slice-5.result.now c.args.part.now.left c.args.part.now.right c.args.draft.now.pages.items c.store.new.draft.pages.items image c.args.n c.args.opened.page.0 c.args.stack.now.items c.store.new.stack.items c.in-Ok-store.sibling
    (let s = c.requires.small in omega (arith, s)) c.requires.opened c.requires.part
    (list_done c.as_slice-5.result.now c.in-Ok.list.items c.as_slice-2.result.now c.as_slice.result.now c.args.part.now.xs.items c.args.opened.entries.items c.as_slice-5.ensures.value c.in-Ok.ensures c.as_slice-2.ensures.value c.as_slice.ensures.value)
    read c.starts_new-full.ensures.last c.in-Ok-store.ensures.stored c.in-Ok-store.ensures.keeps

pub returns-in-Ok-store-clause-others : goal.returns-in-Ok-store-clause-others
returns-in-Ok-store-clause-others c = λ image read.
    (stored_framed c.starts_new-full.result c.as_slice-5.result.now c.args.opened.page.0 c.args.n c.args.draft.now.pages.items c.store.new.draft.pages.items image c.args.stack.now.items c.store.new.stack.items c.in-Ok-store.sibling
    (ap (frame_of Full) read) c.in-Ok-store.ensures.stored).others
