use Rattle.std.proofs.Common.{sym, ap, ◌∙◌, ◌-◌, map, arith}
use Rattle.std.proofs.lemmas.List.{length-map}
use Rattle.jfs_xtpage.specs.declared.head.XtHead.{XtHead}
use Rattle.jfs_xtpage.specs.Page.{entries_of, count_of}
use Rattle.jfs_xtpage.proofs.Entries.{length-entries}
use Rattle.jfs_xtree.specs.Node.{is_leaf, child_of}
use Rattle.jfs_xtree.proofs.Reading.{sound_leaf, sound_inner}
use Rattle.jfs_xtree.proofs.entries.XtPagesPageRead.shape.Goals as goal

pub returns-then-is_leaf : goal.returns-then-is_leaf
returns-then-is_leaf c = (
  entries_of c.args.bytes.now,
  sound_leaf c.args.self.now.form c.args.self.now.blocks c.args.bytes.now c.in_ok-head.ensures.sound.1
      (ap (λ (h : XtHead). is_leaf h.flag) (sym c.in_ok-head.ensures.sound.0) ∙ sym c.is_leaf.ensures ∙ c.if-is_leaf.true),
  length-entries c.args.bytes.now 0 (count_of c.args.bytes.now) ∙ ap (λ (h : XtHead). h.nextindex - 2) (sym c.in_ok-head.ensures.sound.0) ∙ sym c.from-count.ensures,
)

pub returns : goal.returns
returns c =
    let kind = ap (λ (h : XtHead). is_leaf h.flag) (sym c.in_ok-head.ensures.sound.0) ∙ sym c.is_leaf.ensures ∙ c.if-is_leaf.false in
    let size = length-entries c.args.bytes.now 0 (count_of c.args.bytes.now) ∙ ap (λ (h : XtHead). h.nextindex - 2) (sym c.in_ok-head.ensures.sound.0) in
    let some = c.in_ok-head.ensures.some (sym c.is_leaf.ensures ∙ c.if-is_leaf.false) in (
      map child_of (entries_of c.args.bytes.now),
      sound_inner c.args.self.now.form c.args.self.now.blocks c.args.bytes.now c.in_ok-head.ensures.sound.1 kind (omega (arith, size, some)),
      length-map (entries_of c.args.bytes.now) child_of ∙ size ∙ sym c.from-count.ensures,
    )
