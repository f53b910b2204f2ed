use Rattle.std.proofs.Common.{◌≤◌, ◌<◌, ◌+◌, ℕ, refl, arith}
use Rattle.jfs_dtpage.proofs.Empty.{linked_more, linked_all}
use Rattle.jfs_dtpage.proofs.make.link_free.Goals as goal

pub loop-slot-init : goal.loop-slot-init
loop-slot-init c = (λ k a b. absurd (none c.args.first k a b), λ from width side. refl)
  where
    none : (first k : ℕ) → first ≤ k → k < first → ⊥
    none first k a b = omega (arith, a, b)

pub loop-slot-preserved : goal.loop-slot-preserved
loop-slot-preserved c =
    let t = c.loop-slot-test.true in let low = c.loop-slot.auto.slot in let some = c.requires.some in
    linked_more c.args.bytes.now c.loop-slot.bytes c.put_byte.new.bytes c.args.first c.args.end c.loop-slot.slot c.start_of.result (c.loop-slot.slot + 1) (omega (arith, low, t, some)) (omega (arith, t, some)) c.loop-slot.invariant c.start_of.ensures c.put_byte.ensures.value refl c.put_byte.ensures.kept

pub returns : goal.returns
returns c =
    let t = c.loop-slot-test.false in
    let a = linked_all c.args.bytes.now c.loop-slot.bytes c.put_byte-2.new.bytes c.args.first c.args.end c.loop-slot.slot c.start_of-2.result c.requires.some (omega (arith, t)) c.loop-slot.invariant c.start_of-2.ensures c.put_byte-2.ensures.value c.put_byte-2.ensures.kept in
    record { next = a.turn; last = a.last; kept = a.kept }
