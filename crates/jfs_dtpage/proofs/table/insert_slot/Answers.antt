use Rattle.std.proofs.Common.{◌+◌, ℕ, sym, subst, arith}
use Rattle.std.specs.List.{insert}
use Rattle.jfs_dtpage.specs.Slots.{slots_at}
use Rattle.jfs_dtpage.proofs.Shifts.{Shifts, shifts_none, shifts_more, shifts_all}
use Rattle.jfs_dtpage.proofs.table.insert_slot.Goals as goal

pub loop-i-init : goal.loop-i-init
loop-i-init c =
    subst (λ (i : ℕ). Shifts c.args.at (c.args.count + 1) (insert (slots_at c.args.bytes.now c.args.at c.args.count) c.args.place c.args.slot) c.args.bytes.now c.args.bytes.now i c.args.slot) (sym c.from-i.ensures)
    (shifts_none c.args.at c.args.count c.args.place c.args.slot c.args.bytes.now c.requires.place)

pub loop-i-preserved : goal.loop-i-preserved
loop-i-preserved c =
    let t = c.loop-i-test.true in let s = c.loop-i.auto.i in let p = c.requires.place in
    shifts_more c.args.at c.args.count c.args.place c.args.slot c.args.bytes.now c.loop-i.bytes c.put_byte.new.bytes c.loop-i.i c.loop-i.carried c.get_u8-next.result c.requires.place
    (omega (arith, s, p, t, c.from-i.ensures, c.from-i-end.ensures)) (omega (arith, t, c.from-i-end.ensures)) c.loop-i.invariant c.get_u8-next.ensures.value c.put_byte.ensures.value c.put_byte.ensures.kept

pub returns-clause-table : goal.returns-clause-table
returns-clause-table c =
    let t = c.loop-i-test.false in
    shifts_all c.args.at c.args.count c.args.place c.args.slot c.args.bytes.now c.loop-i.bytes c.loop-i.i c.loop-i.carried c.requires.place (omega (arith, t, c.from-i-end.ensures)) c.loop-i.invariant
