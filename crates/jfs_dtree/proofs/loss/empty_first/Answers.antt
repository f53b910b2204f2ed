use Rattle.std.proofs.Common.{◌∙◌, sym}
use Rattle.jfs_dtree.proofs.Emptied.{first_emptied, leaf_stays, broken_stays}
use Rattle.jfs_dtree.proofs.Leading.{count_some}
use Rattle.jfs_dtree.proofs.Frames.{head_frame}
use Rattle.jfs_dtree.proofs.loss.empty_first.Goals as goal

pub child_page-page-requires-clause-place : goal.child_page-page-requires-clause-place
child_page-page-requires-clause-place c = count_some c.args.form c.args.bytes.now (c.in-Ok.ensures.inner (sym c.is_leaf.ensures ∙ c.if-is_leaf.false)).1

pub make_way-requires-clause-some : goal.make_way-requires-clause-some
make_way-requires-clause-some c = count_some c.args.form c.args.bytes.now (c.in-Ok.ensures.inner (sym c.is_leaf.ensures ∙ c.if-is_leaf.false)).1

pub returns-in_default-clause-first : goal.returns-in_default-clause-first
returns-in_default-clause-first c = broken_stays c.args.form c.args.blocks c.args.bytes.now c.in_default.field-0 c.in_default.ensures.broken

pub returns-then-is_leaf-clause-first : goal.returns-then-is_leaf-clause-first
returns-then-is_leaf-clause-first c = leaf_stays c.args.form c.args.blocks c.args.bytes.now c.in-Ok.ensures.sound.0 (sym c.is_leaf.ensures ∙ c.if-is_leaf.true)

pub returns-clause-first : goal.returns-clause-first
returns-clause-first c =
    let kind = sym c.is_leaf.ensures ∙ c.if-is_leaf.false in
    let inner = c.in-Ok.ensures.inner kind in
    first_emptied c.args.form c.args.blocks c.child_page-page.result c.args.bytes.now c.make_way.new.bytes c.in-Ok.ensures.sound.0 kind inner.0 inner.1 c.child_page-page.ensures.page c.make_way.ensures.page c.make_way.ensures.head c.make_way.ensures.entries

pub returns-clause-frame : goal.returns-clause-frame
returns-clause-frame c = head_frame c.args.form c.args.bytes.now c.make_way.new.bytes c.make_way.ensures.head
