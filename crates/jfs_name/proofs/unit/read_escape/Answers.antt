use Rattle.std.proofs.Common.{◌≡◌, ◌+◌, Some, sym, ◌∙◌, refl, arith, rules}
use Rattle.std.specs.Prelude.{slice_get}
use Rattle.jfs_name.specs.Name.{IsUnit}
use Rattle.jfs_name.specs.Text.{hex, escaped, not_a_unit}
use Rattle.jfs_name.proofs.Units.{no_digits, digits_more, digit_breaks}
use Rattle.jfs_name.proofs.unit.read_escape.Goals as goal
use Rattle.jfs_name.proofs.unit.read_escape.Goals.{then-unit-eq0-via-then-unit-eq0, then-unit-eq0-via-else-unit-eq0+then-unit-from}

pub returns-in_default-clause-broken : goal.returns-in_default-clause-broken
returns-in_default-clause-broken c =
    let u : slice_get c.args.text.now (c.args.at + 1) ≡ Some 117 = search rules in
    digit_breaks c.args.text.now c.args.at 0 (c.args.at + 2) c.requires.begins u (omega arith) (omega arith) (no_digits c.args.text.now c.args.at) (sym c.digit_at.ensures.value ∙ c.in_default.is)

pub returns-in_default-digit_at-clause-broken : goal.returns-in_default-digit_at-clause-broken
returns-in_default-digit_at-clause-broken c =
    let u : slice_get c.args.text.now (c.args.at + 1) ≡ Some 117 = search rules in
    let t = c.args.text.now in let p = c.args.at in
    let one = digits_more t p 0 (p + 2) c.in-Some.first (omega arith) (sym c.digit_at.ensures.value ∙ c.in-Some.is) (no_digits t p) in
    digit_breaks t p 1 (p + 3) c.requires.begins u (omega arith) (omega arith) one (sym c.digit_at-2.ensures.value ∙ c.in_default-digit_at.is)

pub returns-in_default-digit_at-2-clause-broken : goal.returns-in_default-digit_at-2-clause-broken
returns-in_default-digit_at-2-clause-broken c =
    let u : slice_get c.args.text.now (c.args.at + 1) ≡ Some 117 = search rules in
    let t = c.args.text.now in let p = c.args.at in
    let one = digits_more t p 0 (p + 2) c.in-Some.first (omega arith) (sym c.digit_at.ensures.value ∙ c.in-Some.is) (no_digits t p) in
    let two = digits_more t p 1 (p + 3) c.in-Some-digit_at.second (omega arith) (sym c.digit_at-2.ensures.value ∙ c.in-Some-digit_at.is) one in
    digit_breaks t p 2 (p + 4) c.requires.begins u (omega arith) (omega arith) two (sym c.digit_at-3.ensures.value ∙ c.in_default-digit_at-2.is)

pub returns-in_default-digit_at-3-clause-broken : goal.returns-in_default-digit_at-3-clause-broken
returns-in_default-digit_at-3-clause-broken c =
    let u : slice_get c.args.text.now (c.args.at + 1) ≡ Some 117 = search rules in
    let t = c.args.text.now in let p = c.args.at in
    let one = digits_more t p 0 (p + 2) c.in-Some.first (omega arith) (sym c.digit_at.ensures.value ∙ c.in-Some.is) (no_digits t p) in
    let two = digits_more t p 1 (p + 3) c.in-Some-digit_at.second (omega arith) (sym c.digit_at-2.ensures.value ∙ c.in-Some-digit_at.is) one in
    let three = digits_more t p 2 (p + 4) c.in-Some-digit_at-2.third (omega arith) (sym c.digit_at-3.ensures.value ∙ c.in-Some-digit_at-2.is) two in
    digit_breaks t p 3 (p + 5) c.requires.begins u (omega arith) (omega arith) three (sym c.digit_at-4.ensures.value ∙ c.in_default-digit_at-3.is)

pub returns-then-unit-eq0-clause-broken : goal.returns-then-unit-eq0-clause-broken
returns-then-unit-eq0-clause-broken c =
    let u : slice_get c.args.text.now (c.args.at + 1) ≡ Some 117 = search rules in
    let not : IsUnit (hex c.in-Some.first c.in-Some-digit_at.second c.in-Some-digit_at-2.third c.in-Some-digit_at-3.fourth) → ⊥ = elim c.then-unit-eq0.branch [
      | then-unit-eq0-via-then-unit-eq0 w ↦ λ is. is.not_zero w.if-unit-eq0.true
      | then-unit-eq0-via-else-unit-eq0+then-unit-from w ↦ λ is. is.not_slash (w.if-unit-from.true ∙ w.from.ensures)
    ] in
    not_a_unit c.requires.begins u c.in-Some.first c.in-Some-digit_at.second c.in-Some-digit_at-2.third c.in-Some-digit_at-3.fourth
    (sym c.digit_at.ensures.value ∙ c.in-Some.is) (sym c.digit_at-2.ensures.value ∙ c.in-Some-digit_at.is) (sym c.digit_at-3.ensures.value ∙ c.in-Some-digit_at-2.is) (sym c.digit_at-4.ensures.value ∙ c.in-Some-digit_at-3.is) not refl

pub returns-clause-unit : goal.returns-clause-unit
returns-clause-unit c =
    let u : slice_get c.args.text.now (c.args.at + 1) ≡ Some 117 = search rules in
    let zero = c.if-unit-eq0.false in let slash = c.if-unit-from.false in let f = c.from.ensures in
    let a = c.in-Some.ensures.fits in let b = c.in-Some-digit_at.ensures.fits in let d = c.in-Some-digit_at-2.ensures.fits in let e = c.in-Some-digit_at-3.ensures.fits in
    escaped c.requires.begins u c.in-Some.first c.in-Some-digit_at.second c.in-Some-digit_at-2.third c.in-Some-digit_at-3.fourth
    (sym c.digit_at.ensures.value ∙ c.in-Some.is) (sym c.digit_at-2.ensures.value ∙ c.in-Some-digit_at.is) (sym c.digit_at-3.ensures.value ∙ c.in-Some-digit_at-2.is) (sym c.digit_at-4.ensures.value ∙ c.in-Some-digit_at-3.is)
    refl (record { fits = (let a0 = a.0 in let b0 = b.0 in let d0 = d.0 in let e0 = e.0 in omega (arith, a0, b0, d0, e0)); not_zero = zero; not_slash = λ s. slash (s ∙ sym f) }) refl
