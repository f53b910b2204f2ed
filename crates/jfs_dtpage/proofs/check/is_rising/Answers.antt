use Rattle.std.proofs.Common.{◌-◌, List, ℕ, refl, sym, subst, arith}
use Rattle.jfs_dtpage.specs.Order.{IsBefore, name_at}
use Rattle.jfs_dtpage.specs.Page.{name_of, names_of}
use Rattle.jfs_dtpage.proofs.Pages.{names_length}
use Rattle.jfs_dtpage.proofs.Rising.{rising_from_next}
use Rattle.jfs_dtpage.proofs.Compared.{within_at, name_by, rises_more}
use Rattle.jfs_dtpage.proofs.check.is_rising.Goals as goal

pub is_before-requires-clause-one : goal.is_before-requires-clause-one
is_before-requires-clause-one c =
    let t = c.loop-place-test.true in let s = c.loop-place.auto.place in
    within_at c.args.form c.args.bytes.now (c.loop-place.place - 1) c.slot_at-before.result c.is_leaf-leaf.result c.requires.size c.requires.chains (omega (arith, t, s, c.count_of-place-end.ensures)) c.is_leaf-leaf.ensures c.slot_at-before.ensures

pub is_before-requires-clause-other : goal.is_before-requires-clause-other
is_before-requires-clause-other c =
    let t = c.loop-place-test.true in
    within_at c.args.form c.args.bytes.now c.loop-place.place c.slot_at.result c.is_leaf-leaf.result c.requires.size c.requires.chains (omega (arith, t, c.count_of-place-end.ensures)) c.is_leaf-leaf.ensures c.slot_at.ensures

pub returns-then-not-is_before-clause-breaks : goal.returns-then-not-is_before-clause-breaks
returns-then-not-is_before-clause-breaks c = λ e rising.
    let names = names_of c.args.form c.args.bytes.now in
    let t = c.loop-place-test.true in let s = c.loop-place.auto.place in
    let b : IsBefore (name_at names (c.loop-place.place - 1)) (name_at names c.loop-place.place) =
    rising (c.loop-place.place - 1) c.loop-place.place (omega (arith, s)) (omega (arith, t, c.count_of-place-end.ensures, names_length c.args.form c.args.bytes.now)) in
    let one = name_by c.args.form c.args.bytes.now (c.loop-place.place - 1) c.slot_at-before.result c.is_leaf-leaf.result (omega (arith, t, s, c.count_of-place-end.ensures)) c.is_leaf-leaf.ensures c.slot_at-before.ensures in
    let next = name_by c.args.form c.args.bytes.now c.loop-place.place c.slot_at.result c.is_leaf-leaf.result (omega (arith, t, c.count_of-place-end.ensures)) c.is_leaf-leaf.ensures c.slot_at.ensures in
    c.if-not-is_before.ensures.no refl (subst (λ (n : List ℕ). IsBefore n (name_of c.is_leaf-leaf.result c.args.bytes.now c.slot_at.result)) (sym one) (subst (IsBefore (name_at names (c.loop-place.place - 1))) (sym next) b))

pub loop-place-preserved : goal.loop-place-preserved
loop-place-preserved c =
    let t = c.loop-place-test.true in let s = c.loop-place.auto.place in
    rises_more (names_of c.args.form c.args.bytes.now) c.loop-place.place (name_of c.is_leaf-leaf.result c.args.bytes.now c.slot_at-before.result) (name_of c.is_leaf-leaf.result c.args.bytes.now c.slot_at.result) (omega (arith, s))
    (name_by c.args.form c.args.bytes.now (c.loop-place.place - 1) c.slot_at-before.result c.is_leaf-leaf.result (omega (arith, t, s, c.count_of-place-end.ensures)) c.is_leaf-leaf.ensures c.slot_at-before.ensures)
    (name_by c.args.form c.args.bytes.now c.loop-place.place c.slot_at.result c.is_leaf-leaf.result (omega (arith, t, c.count_of-place-end.ensures)) c.is_leaf-leaf.ensures c.slot_at.ensures)
    (c.if-not-is_before.ensures.yes refl) c.loop-place.invariant

pub returns-clause-rises : goal.returns-clause-rises
returns-clause-rises c = λ e.
    rising_from_next (names_of c.args.form c.args.bytes.now) (λ i h. c.loop-place.invariant i (let t = c.loop-place-test.false in omega (arith, t, h, c.count_of-place-end.ensures, names_length c.args.form c.args.bytes.now)))
