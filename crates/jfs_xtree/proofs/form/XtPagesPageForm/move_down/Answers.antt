use Rattle.std.proofs.Common.{◌≡◌, ◌∙◌, sym, ap, subst}
use Rattle.jfs_bits.specs.declared.extent.Xad.{Xad}
use Rattle.jfs_tree.specs.Walk.{Leaf, Inner}
use Rattle.jfs_xtpage.specs.Page.{entries_of}
use Rattle.jfs_xtree.specs.Node.{xt_node, is_leaf, with_at}
use Rattle.jfs_xtree.specs.declared.form.XtPages.{XtPages}
use Rattle.jfs_xtree.proofs.Pages.{full_laid_out}
use Rattle.jfs_xtree.proofs.Forms.{moved_leaf, moved_inner, moved_root, new_as}
use Rattle.jfs_xtree.proofs.Frames.{frame_kept, moved_new}
use Rattle.jfs_xtree.proofs.form.XtPagesPageForm.move_down.Goals as goal

pub returns-clause-entries : goal.returns-clause-entries
returns-clause-entries c = λ es is.
    subst (λ (p : XtPages). xt_node p.form p.blocks c.xt_split.new.to ≡ Leaf es) c.requires.pages
    (moved_leaf c.args.self.now.form c.args.self.now.blocks c.args.root.now c.xt_new.new.bytes c.xt_split.new.to c.is_leaf-leaf.result _ es c.requires.top is (c.is_leaf-leaf.ensures ∙ ap is_leaf c.get_u8.ensures.value)
    (new_as c.args.pages.now.form c.xt_new.new.bytes c.is_leaf-leaf.result _ (ap (λ (p : XtPages). p.form) (sym c.requires.pages)) c.xt_new.ensures.head) c.xt_split.ensures.to_head c.xt_split.ensures.to_entries)

pub returns-clause-children : goal.returns-clause-children
returns-clause-children c = λ cs is.
    subst (λ (p : XtPages). xt_node p.form p.blocks c.xt_split.new.to ≡ Inner cs) c.requires.pages
    (moved_inner c.args.self.now.form c.args.self.now.blocks c.args.root.now c.xt_new.new.bytes c.xt_split.new.to c.is_leaf-leaf.result _ cs c.requires.top is (c.is_leaf-leaf.ensures ∙ ap is_leaf c.get_u8.ensures.value)
    (new_as c.args.pages.now.form c.xt_new.new.bytes c.is_leaf-leaf.result _ (ap (λ (p : XtPages). p.form) (sym c.requires.pages)) c.xt_new.ensures.head) c.xt_split.ensures.to_head c.xt_split.ensures.to_entries)

pub returns-clause-root : goal.returns-clause-root
returns-clause-root c =
    moved_root c.args.self.now.form c.args.self.now.blocks c.args.root.now c.xt_split.new.from c.xt_set_kind.new.bytes c.insert.new.bytes c.args.q c.requires.within c.requires.full (full_laid_out c.args.self.now.form c.args.root.now c.requires.size.0 c.requires.full).1
    c.xt_split.ensures.head c.xt_split.ensures.entries c.xt_set_kind.ensures.head c.xt_set_kind.ensures.entries c.insert.ensures.head (c.insert.ensures.entries ∙ ap (λ (x : Xad). with_at (entries_of c.xt_set_kind.new.bytes) 0 x) c.child_entry.ensures.is)

pub returns-clause-frame : goal.returns-clause-frame
returns-clause-frame c =
    let form = c.args.self.now.form in
    frame_kept form c.xt_set_kind.new.bytes c.insert.new.bytes _ _ c.insert.ensures.head c.insert.ensures.tail
    ∙ frame_kept form c.xt_split.new.from c.xt_set_kind.new.bytes _ _ c.xt_set_kind.ensures.head
    (c.xt_set_kind.ensures.tail c.xt_split.ensures.page)
    ∙ frame_kept form c.args.root.now c.xt_split.new.from _ _ c.xt_split.ensures.head c.xt_split.ensures.tail

pub returns-clause-new : goal.returns-clause-new
returns-clause-new c = moved_new c.args.pages.now.form c.xt_new.new.bytes c.xt_split.new.to c.is_leaf-leaf.result c.args.q _ _ (ap (λ (p : XtPages). p.form) (sym c.requires.pages)) c.page_at.ensures c.xt_new.ensures.head c.xt_split.ensures.to_head
