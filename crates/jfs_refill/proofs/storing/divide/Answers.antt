use Rattle.std.proofs.Common.{◌∙◌, ap, ℕ}
use Rattle.jfs_bits.specs.declared.extent.Xad.{Xad}
use Rattle.jfs_xtpage.specs.declared.head.XtHead.{XtHead}
use Rattle.jfs_xtpage.specs.Page.{new_head, head_of}
use Rattle.jfs_xtpage.specs.declared.head.XtForm.TheVariants.{Full}
use Rattle.jfs_xtree.specs.Node.{is_leaf}
use Rattle.jfs_refill.proofs.Dividing.{divided}
use Rattle.jfs_refill.proofs.storing.divide.Goals as goal

pub returns-clause-divided : goal.returns-clause-divided
returns-clause-divided c =
    divided c.args.list.now c.split_at.result.0.now c.split_at.result.1.now c.args.full c.args.n c.args.q c.xt_entry.result.offset c.get_u64-next.result c.get_u64-prev.result c.border.result c.is_leaf.result
    c.args.bytes.now c.refill.new.bytes c.xt_link.new.bytes c.xt_new.new.bytes c.refill-2.new.bytes c.xt_link-2.new.bytes c.border.ensures.is c.split_at.ensures.front c.split_at.ensures.back c.requires.long c.requires.most
    c.requires.slots (c.is_leaf.ensures ∙ ap is_leaf c.get_u8.ensures.value) (c.xt_new.ensures.head ∙ ap (new_head Full c.is_leaf.result) c.page_at.ensures) c.refill.ensures.head c.refill.ensures.entries
    c.refill-2.ensures.head c.refill-2.ensures.entries c.get_u64-next.ensures.value c.get_u64-prev.ensures.value (c.xt_link.ensures.head ∙ ap (λ (m : ℕ). let r : XtHead = record (head_of c.refill.new.bytes) { next = m; prev = c.get_u64-prev.result } in r) c.from.ensures) c.xt_link.ensures.entries
    (c.xt_link-2.ensures.head ∙ ap (λ (m : ℕ). let r : XtHead = record (head_of c.refill-2.new.bytes) { next = c.get_u64-next.result; prev = m } in r) c.from-2.ensures) c.xt_link-2.ensures.entries
    (ap (λ (x : Xad). x.offset) c.xt_entry.ensures.value)
