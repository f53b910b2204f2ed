use Rattle.std.proofs.Common.{ℕ, sym, subst, arith}
use Rattle.std.specs.List.{remove}
use Rattle.jfs_dtpage.specs.Slots.{slots_at}
use Rattle.jfs_dtpage.proofs.Shifts.{Closes, closes_none, closes_more, closes_all}
use Rattle.jfs_dtpage.proofs.table.remove_slot.Goals as goal

pub loop-i-init : goal.loop-i-init
loop-i-init c =
    subst (λ (i : ℕ). Closes c.args.at c.args.count (remove (slots_at c.args.bytes.now c.args.at c.args.count) c.args.place) c.args.bytes.now c.args.bytes.now i) (sym c.from-i.ensures)
    (closes_none c.args.at c.args.count c.args.place c.args.bytes.now c.requires.place)

pub loop-i-preserved : goal.loop-i-preserved
loop-i-preserved c =
    let t = c.loop-i-test.true in let s = c.loop-i.auto.i in let p = c.requires.place in
    closes_more c.args.at c.args.count c.args.place c.args.bytes.now c.loop-i.bytes c.put_byte.new.bytes c.loop-i.i c.get_u8-next.result c.requires.place
    (omega (arith, s, p, t, c.from-i.ensures, c.from-i-end.ensures)) (omega (arith, t, c.from-i-end.ensures)) c.loop-i.invariant c.get_u8-next.ensures.value c.put_byte.ensures.value c.put_byte.ensures.kept

pub returns-clause-table : goal.returns-clause-table
returns-clause-table c =
    let t = c.loop-i-test.false in
    closes_all c.args.at c.args.count c.args.place c.args.bytes.now c.loop-i.bytes c.loop-i.i c.requires.place (omega (arith, t, c.from-i-end.ensures)) c.loop-i.invariant
