-- Counts over all IAGs, IAG by IAG and group by group.
use Rattle.std.proofs.Common.{◌≡◌, ◌<◌, ◌+◌, ◌*◌, ◌/◌, ◌%◌, ℕ, Bool, true, false, ◌&&◌, List, length, get_or, set, inl, inr, refl, sym, ◌∙◌, arith}
use Rattle.std.specs.Prelude.{◌==◌}
use Rattle.std.proofs.lemmas.Bool.{cases_eq, eq-eqb, ne_eqb}
use Rattle.std.proofs.lemmas.List.{get_or-set_same, get_or-set_other}
use Rattle.jfs_bits.specs.Bits.{count_below}
use Rattle.jfs_bits.proofs.Counts.{count_below-same, count_below-parts, count_below-nothing}

pub count-next : (n k : ℕ) (f : ℕ → Bool) → count_below (n * (k + 1)) f ≡ count_below (n * k) f + count_below n (λ i. f (n * k + i))
count-next n k f = let e : n * (k + 1) ≡ n * k + n = omega arith in rw e (count_below-parts (n * k) n f)

and_yes : (a b : Bool) → b ≡ true → (a && b) ≡ a
and_yes true b e = e
and_yes false b e = refl

and_no : (a b : Bool) → b ≡ false → (a && b) ≡ false
and_no true b e = e
and_no false b e = refl

-- the group of IAG k gains its count, and the others gain nothing
pub group-next : (n k numag g count : ℕ) (f : ℕ → Bool) (counts : List ℕ) → ((i : ℕ) → i < n → (n * k + i) / n ≡ k) → k % numag < length counts → count ≡ count_below n (λ i. f (n * k + i))
    → get_or counts g 0 ≡ count_below (n * k) (λ i. f i && i / n % numag == g) → get_or counts (k % numag) 0 ≡ count_below (n * k) (λ i. f i && i / n % numag == k % numag)
    → get_or (set counts (k % numag) (get_or counts (k % numag) 0 + count)) g 0 ≡ count_below (n * (k + 1)) (λ i. f i && i / n % numag == g)
group-next n k numag g count f counts iag within is before here =
    elim (cases_eq g (k % numag)) [
      | inl same ↦
          rw same (get_or-set_same counts (k % numag) (get_or counts (k % numag) 0 + count) 0 within
          ∙ gain here (is ∙ sym (count_below-same n (λ i. f (n * k + i) && (n * k + i) / n % numag == k % numag) (λ i. f (n * k + i)) (λ i h. and_yes (f (n * k + i)) ((n * k + i) / n % numag == k % numag) (rw (iag i h) (eq-eqb (k % numag) (k % numag) refl)))))
          ∙ sym (count-next n k (λ i. f i && i / n % numag == k % numag)))
      | inr other ↦
          get_or-set_other counts (k % numag) g (get_or counts (k % numag) 0 + count) 0 other
          ∙ before
          ∙ nothing (count_below-nothing n (λ i. f (n * k + i) && (n * k + i) / n % numag == g) (λ i h. and_no (f (n * k + i)) ((n * k + i) / n % numag == g) (rw (iag i h) (ne_eqb (k % numag) g (λ e. other (sym e))))))
          ∙ sym (count-next n k (λ i. f i && i / n % numag == g))
    ]
  where
    gain : {a b c d : ℕ} → a ≡ b → c ≡ d → a + c ≡ b + d
    gain p q = rw (p, q) refl

    nothing : {a b : ℕ} → b ≡ 0 → a ≡ a + b
    nothing e = omega arith
