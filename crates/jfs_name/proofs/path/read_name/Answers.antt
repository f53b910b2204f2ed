use Rattle.std.proofs.Common.{ℕ, List, length, inl, inr, subst, arith}
use Rattle.std.proofs.lemmas.Option.{slice_get_past}
use Rattle.jfs_name.specs.Name.{IsNoDot}
use Rattle.jfs_name.specs.Text.{EndsAt}
use Rattle.jfs_name.proofs.Names.{goes_none, goes_more, breaks_in_unit, too_many, breaks_empty, breaks_dots, is_name, slash_there, is_zero, not_zero, no_items}
use Rattle.jfs_name.proofs.path.read_name.Goals as goal
use Rattle.jfs_name.proofs.path.read_name.Goals.{then-loop-at-test+else-text-at-ne47, else-loop-at-test, then-is_empty-via-then-is_empty, then-is_empty-via-else-is_empty+then-is_dots}

pub loop-at-init : goal.loop-at-init
loop-at-init c = goes_none c.args.text.now c.args.first c.new-units.result c.new-units.ensures c.requires.within

pub returns-in-Err : goal.returns-in-Err
returns-in-Err c = breaks_in_unit c.args.text.now c.args.first c.loop-at.at c.in-Err.place c.loop-at.units c.requires.begun c.loop-at.invariant c.loop-at-test.true c.if-text-at-ne47.true c.in-Err.ensures.broken

pub returns-then-len-eq-MOST_UNITS : goal.returns-then-len-eq-MOST_UNITS
returns-then-len-eq-MOST_UNITS c =
    too_many c.args.text.now c.args.first c.loop-at.at c.in-Ok.read.0 c.in-Ok.read.1 c.loop-at.units c.requires.begun c.loop-at.invariant (let n = c.len.ensures in let e = c.if-len-eq-MOST_UNITS.true in omega (arith, n, e)) c.in-Ok.ensures.unit

pub loop-at-preserved : goal.loop-at-preserved
loop-at-preserved c =
    goes_more c.args.text.now c.args.first c.loop-at.at c.in-Ok.read.0 c.in-Ok.read.1 c.loop-at.units c.push.new.self c.loop-at.invariant c.in-Ok.ensures.unit c.in-Ok.ensures.bound.0 c.in-Ok.ensures.bound.1 c.in-Ok.ensures.fits
    (let n = c.len.ensures in let e = c.if-len-eq-MOST_UNITS.false in λ full. e (omega (arith, n, full)))
    c.in_ok-push.ensures.ok

pub returns-then-is_empty : goal.returns-then-is_empty
returns-then-is_empty c =
    let ends : EndsAt c.args.text.now c.loop-at.at = elim c.loop-at-test.branch [
      | then-loop-at-test+else-text-at-ne47 w ↦ inr (slash_there c.args.text.now c.loop-at.at w.loop-at-test.true w.if-text-at-ne47.false)
      | else-loop-at-test w ↦ inl (slice_get_past c.args.text.now c.loop-at.at w.loop-at-test.false)
    ] in
    elim c.then-is_empty.branch [
      | then-is_empty-via-then-is_empty w ↦
          breaks_empty c.args.text.now c.args.first c.loop-at.at c.loop-at.units c.requires.begun c.loop-at.invariant ends (no_items c.loop-at.units (is_zero (length c.loop-at.units) c.is_empty.result c.is_empty.ensures w.if-is_empty.true))
      | then-is_empty-via-else-is_empty+then-is_dots w ↦
          breaks_dots c.args.text.now c.args.first c.loop-at.at c.loop-at.units c.requires.begun c.loop-at.invariant ends (subst (λ (u : List ℕ). IsNoDot u → ⊥) w.as_slice.ensures (w.is_dots.ensures.dots w.if-is_dots.true))
    ]

pub returns : goal.returns
returns c =
    let ends : EndsAt c.args.text.now c.loop-at.at = elim c.loop-at-test.branch [
      | then-loop-at-test+else-text-at-ne47 w ↦ inr (slash_there c.args.text.now c.loop-at.at w.loop-at-test.true w.if-text-at-ne47.false)
      | else-loop-at-test w ↦ inl (slice_get_past c.args.text.now c.loop-at.at w.loop-at-test.false)
    ] in
    let i = c.loop-at.invariant in
    (i.0, ends, is_name c.args.text.now c.args.first c.loop-at.at c.loop-at.units i (not_zero (length c.loop-at.units) c.is_empty.result c.is_empty.ensures c.if-is_empty.false) (subst IsNoDot c.as_slice.ensures (c.is_dots.ensures.other c.if-is_dots.false)), i.1, i.2)
