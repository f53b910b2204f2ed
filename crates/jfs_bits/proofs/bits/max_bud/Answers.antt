use Rattle.std.proofs.Common.{◌≡◌, ◌-◌, ◌∙◌, true, sym, inl, inr, arith, w8}
use Rattle.std.proofs.lemmas.Bool.{cases_eq}
use Rattle.std.proofs.lemmas.Int.{to_z_pos}
use Rattle.jfs_bits.specs.Bits.{is_taken_in, max_bud_of, has_free_run}
use Rattle.jfs_bits.proofs.Buds.{lowest-has, greatest_run-at, greatest_run-none}
use Rattle.jfs_bits.proofs.bits.max_bud.Goals as goal

pub returns-then-is_some : goal.returns-then-is_some
unfolding max_bud_of
returns-then-is_some c =
    let k = 5 - c.loop-below.below in
    let here : has_free_run (is_taken_in c.args.word) 5 k ≡ true = rw (← c.from.ensures) (lowest-has c.args.word c.from.result c.lowest_run.result c.lowest_run.ensures ∙ sym c.is_some.ensures ∙ c.if-is_some.true) in
    to_z_pos w8 k (omega arith) ∙ sym (greatest_run-at (is_taken_in c.args.word) 5 5 k (omega arith) here (λ l a b. c.loop-below.invariant l b (omega arith)))

pub loop-below-preserved : goal.loop-below-preserved
loop-below-preserved c k h a =
    elim (cases_eq k (5 - c.loop-below.below)) [
      | inl e ↦ rw (e, ← c.from.ensures) (lowest-has c.args.word c.from.result c.lowest_run.result c.lowest_run.ensures ∙ sym c.is_some.ensures ∙ c.if-is_some.false)
      | inr n ↦ c.loop-below.invariant k h (omega arith)
    ]

pub returns : goal.returns
unfolding max_bud_of
returns c = sym (greatest_run-none (is_taken_in c.args.word) 5 5 (λ k h. c.loop-below.invariant k h (omega arith)))
