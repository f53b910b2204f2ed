use Rattle.std.proofs.Common.{◌+◌, ◌-◌, ◌/◌, ◌≤◌, ◌<◌, arith, subst}
use Rattle.jfs_bits.specs.declared.extent.Xad.{Xad}
use Rattle.jfs_xtpage.specs.Page.{count_of}
use Rattle.jfs_xtpage.proofs.Rising.{middle_within, low_moves, high_moves}
use Rattle.jfs_xtpage.proofs.find.xt_find.Goals as goal

pub loop-low-preserved-then-xt_entry-offset : goal.loop-low-preserved-then-xt_entry-offset
loop-low-preserved-then-xt_entry-offset c =
    let m = middle_within c.loop-low.low c.loop-low.high c.loop-low-test.true in
    let i = c.loop-low.invariant in
    (omega (arith, m), i.1, (λ rising j l. low_moves c.args.bytes.now (count_of c.args.bytes.now) (c.loop-low.low + (c.loop-low.high - c.loop-low.low) / 2) c.args.offset j rising (let n = i.1 in omega (arith, m, n)) (subst (λ (x : Xad). x.offset ≤ c.args.offset) c.xt_entry.ensures.value c.if-xt_entry-offset.true) l), i.3)

pub loop-low-preserved : goal.loop-low-preserved
loop-low-preserved c =
    let m = middle_within c.loop-low.low c.loop-low.high c.loop-low-test.true in
    let i = c.loop-low.invariant in
    (omega arith, (let n = i.1 in omega (arith, m, n)), i.2, λ rising j a b. high_moves c.args.bytes.now (count_of c.args.bytes.now) (c.loop-low.low + (c.loop-low.high - c.loop-low.low) / 2) c.args.offset j rising (subst (λ (x : Xad). c.args.offset < x.offset) c.xt_entry.ensures.value c.if-xt_entry-offset.false) a b)
