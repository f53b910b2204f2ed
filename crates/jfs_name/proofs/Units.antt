-- An escape read digit by digit.
use Rattle.std.proofs.Common.{◌≡◌, ◌<◌, ◌+◌, ℕ, List, Option, Some, None, inl, inr, sym, ap, ◌∙◌, arith}
use Rattle.std.specs.Prelude.{slice_get}
use Rattle.std.proofs.lemmas.Bool.{cases_lt}
use Rattle.jfs_name.specs.Text.{digit_at, UnitBreaks, no_digit}

-- a digit stands at each of the first `k` places behind `%u`
abbrev pub Digits : List ℕ → ℕ → ℕ → Type 0
Digits text place k = (i : ℕ) → i < k → digit_at text (place + 2 + i) ≡ None → ⊥

pub no_digits : (text : List ℕ) (place : ℕ) → Digits text place 0
no_digits text place i h n = absurd (below_zero i h)
  where
    below_zero : (i : ℕ) → i < 0 → ⊥
    below_zero i h = omega (arith, h)

some_none : (o : Option ℕ) (x : ℕ) → o ≡ Some x → o ≡ None → ⊥
some_none o x e n = cc

pub digits_more : (text : List ℕ) (place k at digit : ℕ) → at ≡ place + 2 + k → digit_at text at ≡ Some digit → Digits text place k → Digits text place (k + 1)
digits_more text place k at digit e is before i h n = elim (cases_lt i k) [
  | inl l ↦ before i l n
  | inr m ↦ some_none (digit_at text at) digit is (ap (λ (p : ℕ). digit_at text p) (omega (arith, e, h, m)) ∙ n)
]

pub digit_breaks : (text : List ℕ) (place k at : ℕ) → slice_get text place ≡ Some 37 → slice_get text (place + 1) ≡ Some 117 → k < 4 → at ≡ place + 2 + k → Digits text place k → digit_at text at ≡ None → UnitBreaks text place at
digit_breaks text place k at a b l e before none = no_digit a b k l before (ap (λ (p : ℕ). digit_at text p) (sym e) ∙ none) e
