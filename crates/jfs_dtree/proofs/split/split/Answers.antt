use Rattle.std.proofs.Common.{sym, ◌∙◌, subst, arith}
use Rattle.std.proofs.lemmas.Bool.{true≢false}
use Rattle.jfs_dtpage.specs.declared.head.DtForm.TheVariants.{Full}
use Rattle.jfs_dtpage.specs.Order.{GoesAt, IsFound}
use Rattle.jfs_dtpage.specs.Page.{entries_of, names_of}
use Rattle.jfs_dtree.proofs.Nodes.{leaf_is}
use Rattle.jfs_dtree.proofs.Places.{clash_row}
use Rattle.jfs_dtree.proofs.Moves.{cons_some, entries_count}
use Rattle.jfs_dtree.proofs.Keys.{leaf_split}
use Rattle.jfs_dtree.proofs.Frames.{left_frame}
use Rattle.jfs_dtree.proofs.split.split.Goals as goal

pub returns-then-not-is_leaf-clause-parts : goal.returns-then-not-is_leaf-clause-parts
returns-then-not-is_leaf-clause-parts c = λ blocks es leaf apart. absurd (true≢false (sym (leaf_is Full blocks c.args.bytes.now es leaf).1 ∙ sym c.is_leaf.ensures ∙ c.if-not-is_leaf.true))

pub returns-then-not-is_leaf-clause-rules : goal.returns-then-not-is_leaf-clause-rules
returns-then-not-is_leaf-clause-rules c = λ blocks es leaf apart. absurd (true≢false (sym (leaf_is Full blocks c.args.bytes.now es leaf).1 ∙ sym c.is_leaf.ensures ∙ c.if-not-is_leaf.true))

pub returns-in_default-clause-parts : goal.returns-in_default-clause-parts
returns-in_default-clause-parts c = λ blocks es leaf apart. absurd (
    clash_row Full blocks c.args.bytes.now c.name.result.now c.args.x.now c.in_default.field-0 es c.name.ensures.units (subst (IsFound (names_of Full c.args.bytes.now) c.name.result.now) c.in_default.is c.dt_find.ensures) leaf apart
    )

pub returns-in_default-clause-rules : goal.returns-in_default-clause-rules
returns-in_default-clause-rules c = λ blocks es leaf apart. absurd (
    clash_row Full blocks c.args.bytes.now c.name.result.now c.args.x.now c.in_default.field-0 es c.name.ensures.units (subst (IsFound (names_of Full c.args.bytes.now) c.name.result.now) c.in_default.is c.dt_find.ensures) leaf apart
    )

pub key_between-requires-clause-some : goal.key_between-requires-clause-some
key_between-requires-clause-some c = (
  (let a = cons_some (entries_of Full c.part.new.bytes) c.part.ensures.some.0 in let b = entries_count Full c.part.new.bytes in omega (arith, a, b)),
  (let a = cons_some (entries_of Full c.part.new.right) c.part.ensures.some.1 in let b = entries_count Full c.part.new.right in omega (arith, a, b)),
)

pub returns-clause-parts : goal.returns-clause-parts
returns-clause-parts c = λ blocks es leaf apart.
    leaf_split blocks c.args.bytes.now c.part.new.bytes c.part.new.right c.name-2.result.now c.key_between.result c.args.x.now c.inode.result c.in-Err.place es leaf c.name-2.ensures.units c.inode.ensures
    (subst (GoesAt (names_of Full c.args.bytes.now) c.in-Err.place) (c.name.ensures.units ∙ sym c.name-2.ensures.units) (subst (IsFound (names_of Full c.args.bytes.now) c.name.result.now) c.in-Err.is c.dt_find.ensures))
    c.part.ensures.pages c.part.ensures.kind c.part.ensures.some.0 c.part.ensures.some.1 c.key_between.ensures.is

pub returns-clause-frame : goal.returns-clause-frame
returns-clause-frame c = left_frame c.args.n c.args.q c.args.bytes.now c.part.new.bytes c.part.new.right c.part.ensures.neighbours
