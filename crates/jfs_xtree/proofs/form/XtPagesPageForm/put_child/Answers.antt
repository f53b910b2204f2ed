use Rattle.std.proofs.Common.{◌∙◌, sym, ap, ◌+◌}
use Rattle.jfs_bits.specs.declared.extent.Xad.{Xad}
use Rattle.jfs_xtpage.specs.Page.{head_of, entries_of}
use Rattle.jfs_xtree.specs.Node.{with_at}
use Rattle.jfs_xtree.proofs.Reading.{inner_is}
use Rattle.jfs_xtree.proofs.Behind.{goes_behind}
use Rattle.jfs_xtree.proofs.Inners.{takes_of, child_put}
use Rattle.jfs_xtree.proofs.Forms.{not_laid, same_through, less_of}
use Rattle.jfs_xtree.proofs.Frames.{frame_kept, frame_same}
use Rattle.jfs_xtree.proofs.form.XtPagesPageForm.put_child.Goals as goal
use Rattle.jfs_xtree.proofs.form.XtPagesPageForm.put_child.Goals.{then-not-is_laid_out-via-then-not-is_laid_out, then-not-is_laid_out-via-else-not-is_laid_out+then-not-takes_child}

pub returns-then-not-is_laid_out-clause-child : goal.returns-then-not-is_laid_out-clause-child
returns-then-not-is_laid_out-clause-child c = λ all at rise. elim c.then-not-is_laid_out.branch [
  | then-not-is_laid_out-via-then-not-is_laid_out w ↦ not_laid c.args.self.now.form c.args.self.now.blocks (head_of c.args.bytes.now) (entries_of c.args.bytes.now) c.is_laid_out.result c.is_laid_out.ensures.is w.if-not-is_laid_out.true
      (inner_is c.args.self.now.form c.args.self.now.blocks c.args.bytes.now _ at.was).0
  | then-not-is_laid_out-via-else-not-is_laid_out+then-not-takes_child w ↦ w.takes_child.ensures.clashes w.if-not-takes_child.true (takes_of c.args.self.now.form c.args.self.now.blocks c.args.bytes.now c.args.place _ all at rise)
]

pub returns-clause-child : goal.returns-clause-child
returns-clause-child c = λ all at rise.
    let laid = c.is_laid_out.ensures.laid c.if-not-is_laid_out.false in
    let a = c.get_u16.ensures.value in
    let b = c.get_u16-2.ensures.value in
    child_put c.args.self.now.form c.args.self.now.blocks c.args.bytes.now c.make_way.new.bytes c.insert.new.bytes c.args.place c.args.child.now.key c.args.child.now.page all at rise c.requires.within c.make_way.ensures.entries
    (same_through c.args.bytes.now c.make_way.new.bytes c.insert.new.bytes c.make_way.ensures.head c.insert.ensures.head laid.least (less_of _ _ laid.most (λ e. c.if-get_u16.false (a ∙ e ∙ sym b))))
    (c.insert.ensures.entries ∙ ap (λ (x : Xad). with_at (entries_of c.make_way.new.bytes) (c.args.place + 1) x) c.child_entry.ensures.is)

pub returns-then-get_u16-clause-goes : goal.returns-then-get_u16-clause-goes
returns-then-get_u16-clause-goes c = goes_behind c.args.self.now.form c.args.self.now.blocks c.args.bytes.now c.args.place _ (c.takes_child.ensures.takes c.if-not-takes_child.false)

pub returns-clause-frame : goal.returns-clause-frame
returns-clause-frame c =
    frame_kept c.args.self.now.form c.make_way.new.bytes c.insert.new.bytes _ _ c.insert.ensures.head c.insert.ensures.tail ∙ frame_same c.args.self.now.form c.args.bytes.now c.make_way.new.bytes c.make_way.ensures.head c.make_way.ensures.tail
