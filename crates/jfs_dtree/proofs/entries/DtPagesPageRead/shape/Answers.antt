use Rattle.std.proofs.Common.{sym, ◌∙◌, map}
use Rattle.std.proofs.lemmas.List.{length-map}
use Rattle.jfs_dtpage.specs.Page.{entries_of}
use Rattle.jfs_dtree.specs.Node.{named, below}
use Rattle.jfs_dtree.proofs.Nodes.{leaf_read, inner_read}
use Rattle.jfs_dtree.proofs.Leading.{entries_length, head_count}
use Rattle.jfs_dtree.proofs.entries.DtPagesPageRead.shape.Goals as goal

pub returns-then-is_leaf : goal.returns-then-is_leaf
returns-then-is_leaf c =
    let sound = c.in_ok-head.ensures.sound in (
      map named (entries_of c.args.self.now.form c.args.bytes.now),
      leaf_read c.args.self.now.form c.args.self.now.blocks c.args.bytes.now sound.0 (sym c.is_leaf.ensures ∙ c.if-is_leaf.true),
      length-map (entries_of c.args.self.now.form c.args.bytes.now) named ∙ entries_length c.args.self.now.form c.args.bytes.now ∙ sym (head_count c.args.self.now.form c.args.bytes.now c.in_ok-head.head sound.1) ∙ sym c.from-count.ensures,
    )

pub returns : goal.returns
returns c =
    let sound = c.in_ok-head.ensures.sound in
    let kind = sym c.is_leaf.ensures ∙ c.if-is_leaf.false in
    let inner = c.in_ok-head.ensures.inner kind in (
      map below (entries_of c.args.self.now.form c.args.bytes.now),
      inner_read c.args.self.now.form c.args.self.now.blocks c.args.bytes.now sound.0 kind inner.0 inner.1,
      length-map (entries_of c.args.self.now.form c.args.bytes.now) below ∙ entries_length c.args.self.now.form c.args.bytes.now ∙ sym (head_count c.args.self.now.form c.args.bytes.now c.in_ok-head.head sound.1) ∙ sym c.from-count.ensures,
    )
