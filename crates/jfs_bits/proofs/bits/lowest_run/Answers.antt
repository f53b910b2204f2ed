use Rattle.std.proofs.Common.{◌≢◌, ◌<◌, ◌+◌, ◌-◌, ◌*◌, ◌/◌, ◌%◌, ◌^◌, ℕ, inl, inr, ap, arith}
use Rattle.std.proofs.lemmas.Bool.{cases_eq}
use Rattle.jfs_bits.proofs.Buds.{sizes_of, run-free, run-taken}
use Rattle.jfs_bits.proofs.bits.lowest_run.Goals as goal

pub returns-then-above-size-eq0 : goal.returns-then-above-size-eq0
returns-then-above-size-eq0 c =
    let s = sizes_of c.args.l2 c.requires in
    let within : c.loop-j.j < 2 ^ (5 - c.args.l2) = rw (s.0, s.2) at c.loop-j-test.true in
    (c.loop-j.j, within, ap (λ (z : ℕ). c.loop-j.j * z) s.0, run-free c.args.word c.args.l2 c.loop-j.j c.requires within (rw (s.0, s.1, c.from.ensures) at c.if-above-size-eq0.true), c.loop-j.invariant)

pub loop-j-preserved : goal.loop-j-preserved
loop-j-preserved c i h =
    let s = sizes_of c.args.l2 c.requires in
    let within : c.loop-j.j < 2 ^ (5 - c.args.l2) = rw (s.0, s.2) at c.loop-j-test.true in
    let other : c.args.word / 2 ^ (32 - (c.loop-j.j + 1) * 2 ^ c.args.l2) % 2 ^ (2 ^ c.args.l2) ≢ 0 = rw (s.0, s.1, c.from.ensures) at c.if-above-size-eq0.false in
    elim (cases_eq i c.loop-j.j) [ inl e ↦ rw e (run-taken c.args.word c.args.l2 c.loop-j.j c.requires within other) | inr n ↦ c.loop-j.invariant i (omega arith) ]

pub returns : goal.returns
returns c j h =
    let s = sizes_of c.args.l2 c.requires in
    c.loop-j.invariant j (omega (arith, rw (s.0, s.2) at c.loop-j-test.false))
