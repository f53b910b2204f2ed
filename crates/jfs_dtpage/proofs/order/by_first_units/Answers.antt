use Rattle.std.proofs.Common.{◌+◌, sym, arith}
use Rattle.jfs_dtpage.proofs.Compared.{units_rise}
use Rattle.jfs_dtpage.proofs.order.by_first_units.Goals as goal

pub returns-then-unit-with-clause-less : goal.returns-then-unit-with-clause-less
returns-then-unit-with-clause-less c = λ e.
    let t = c.loop-i-test.true in let b = c.if-unit-with.true in
    units_rise c.args.leaf c.args.bytes.now c.args.one c.args.other (c.start_of.result + c.link_at.result + 2) (c.start_of-2.result + c.link_at-2.result + 2) c.loop-i.i
    (omega (arith, c.start_of.ensures, c.link_at.ensures.value)) (omega (arith, c.start_of-2.ensures, c.link_at-2.ensures.value))
    (omega (arith, t, c.min-i-end.ensures, c.first_units.ensures.value, c.from.ensures, c.min-units.ensures, c.length_of.ensures, c.length_of-2.ensures))
    c.loop-i.invariant (omega (arith, b, c.get_u16-unit.ensures.value, c.get_u16-with.ensures.value))

pub returns-then-with-unit-clause-greater : goal.returns-then-with-unit-clause-greater
returns-then-with-unit-clause-greater c = λ e.
    let t = c.loop-i-test.true in let b = c.if-with-unit.true in
    units_rise c.args.leaf c.args.bytes.now c.args.other c.args.one (c.start_of-2.result + c.link_at-2.result + 2) (c.start_of.result + c.link_at.result + 2) c.loop-i.i
    (omega (arith, c.start_of-2.ensures, c.link_at-2.ensures.value)) (omega (arith, c.start_of.ensures, c.link_at.ensures.value))
    (omega (arith, t, c.min-i-end.ensures, c.first_units.ensures.value, c.from.ensures, c.min-units.ensures, c.length_of.ensures, c.length_of-2.ensures))
    (λ k z. sym (c.loop-i.invariant k z)) (omega (arith, b, c.get_u16-unit.ensures.value, c.get_u16-with.ensures.value))
