-- Numbers that stand one after another in a page, and how often a slot stands in a list.
use Rattle.std.proofs.Common.{◌≡◌, ◌≤◌, ◌<◌, ◌+◌, ◌*◌, ℕ, zero, suc, List, [], ◌∷◌, ◌++◌, length, get_or, inl, inr, refl, ap, ◌∙◌, subst, arith}
use Rattle.std.specs.List.{AllByRecursion}
use Rattle.std.proofs.lemmas.Bool.{cases_eq, eq-eqb, ne_eqb}
use Rattle.jfs_bits.specs.Field.{field_of}
use Rattle.jfs_dtpage.specs.Slots.{units_at, slots_at, times}

-- ---- units

pub units_from : (bytes : List ℕ) (xs : List ℕ) (at : ℕ) → ((i : ℕ) → i < length xs → field_of bytes (at + 2 * i) 2 ≡ get_or xs i 0) → units_at bytes at (length xs) ≡ xs
unfolding units_at
units_from bytes [] at h = refl
units_from bytes (x ∷ xs) at h =
    let here : field_of bytes at 2 ≡ x = ap (λ (p : ℕ). field_of bytes p 2) (omega arith) ∙ h 0 (omega arith) in
    let rest = units_from bytes xs (at + 2) (λ i l. ap (λ (p : ℕ). field_of bytes p 2) (omega arith) ∙ h (suc i) (omega (arith, l))) in
    rw (here, rest) refl

pub units_same : (old new : List ℕ) (at n : ℕ) → ((i : ℕ) → i < n → field_of new (at + 2 * i) 2 ≡ field_of old (at + 2 * i) 2) → units_at new at n ≡ units_at old at n
unfolding units_at
units_same old new at zero h = refl
units_same old new at (suc n) h =
    let here : field_of new at 2 ≡ field_of old at 2 = ap (λ (p : ℕ). field_of new p 2) (omega arith) ∙ h 0 (omega arith) ∙ ap (λ (p : ℕ). field_of old p 2) (omega arith) in
    let rest = units_same old new (at + 2) n (λ i l. ap (λ (p : ℕ). field_of new p 2) (omega arith) ∙ h (suc i) (omega (arith, l)) ∙ ap (λ (p : ℕ). field_of old p 2) (omega arith)) in
    rw (here, rest) refl

pub length-units_at : (bytes : List ℕ) (at n : ℕ) → length (units_at bytes at n) ≡ n
unfolding units_at
length-units_at bytes at zero = refl
length-units_at bytes at (suc n) = ap suc (length-units_at bytes (at + 2) n)

-- ---- slots

pub slots_from : (bytes : List ℕ) (xs : List ℕ) (at : ℕ) → ((i : ℕ) → i < length xs → field_of bytes (at + i) 1 ≡ get_or xs i 0) → slots_at bytes at (length xs) ≡ xs
unfolding slots_at
slots_from bytes [] at h = refl
slots_from bytes (x ∷ xs) at h =
    let here : field_of bytes at 1 ≡ x = ap (λ (p : ℕ). field_of bytes p 1) (omega arith) ∙ h 0 (omega arith) in
    let rest = slots_from bytes xs (at + 1) (λ i l. ap (λ (p : ℕ). field_of bytes p 1) (omega arith) ∙ h (suc i) (omega (arith, l))) in
    rw (here, rest) refl

pub slots_same : (old new : List ℕ) (at n : ℕ) → ((i : ℕ) → i < n → field_of new (at + i) 1 ≡ field_of old (at + i) 1) → slots_at new at n ≡ slots_at old at n
unfolding slots_at
slots_same old new at zero h = refl
slots_same old new at (suc n) h =
    let here : field_of new at 1 ≡ field_of old at 1 = ap (λ (p : ℕ). field_of new p 1) (omega arith) ∙ h 0 (omega arith) ∙ ap (λ (p : ℕ). field_of old p 1) (omega arith) in
    let rest = slots_same old new (at + 1) n (λ i l. ap (λ (p : ℕ). field_of new p 1) (omega arith) ∙ h (suc i) (omega (arith, l)) ∙ ap (λ (p : ℕ). field_of old p 1) (omega arith)) in
    rw (here, rest) refl

pub length-slots_at : (bytes : List ℕ) (at n : ℕ) → length (slots_at bytes at n) ≡ n
unfolding slots_at
length-slots_at bytes at zero = refl
length-slots_at bytes at (suc n) = ap suc (length-slots_at bytes (at + 1) n)

pub get_or-slots_at : (bytes : List ℕ) (at n i : ℕ) → i < n → get_or (slots_at bytes at n) i 0 ≡ field_of bytes (at + i) 1
unfolding slots_at
get_or-slots_at bytes at zero i h = absurd (none i h)
  where
    none : (i : ℕ) → i < 0 → ⊥
    none i h = omega (arith, h)
get_or-slots_at bytes at (suc n) zero h = ap (λ (p : ℕ). field_of bytes p 1) (omega arith)
get_or-slots_at bytes at (suc n) (suc i) h = get_or-slots_at bytes (at + 1) n i (omega (arith, h)) ∙ ap (λ (p : ℕ). field_of bytes p 1) (omega arith)

-- ---- how often

pub times-append : (k : ℕ) (xs ys : List ℕ) → times k (xs ++ ys) ≡ times k xs + times k ys
times-append k [] ys = omega arith
times-append k (x ∷ xs) ys = let r = times-append k xs ys in omega (arith, r)

pub times_here : (x : ℕ) (xs : List ℕ) → times x (x ∷ xs) ≡ suc (times x xs)
times_here x xs = rw (eq-eqb x x refl) (omega arith)

pub times_other : (k x : ℕ) (xs : List ℕ) → (x ≡ k → ⊥) → times k (x ∷ xs) ≡ times k xs
times_other k x xs h = rw (ne_eqb x k h) (omega arith)

pub times_rest : (k x : ℕ) (xs : List ℕ) → times k xs ≤ times k (x ∷ xs)
times_rest k x xs = omega arith

-- what holds of each number that is there
pub all_from : (P : ℕ → Type 0) (xs : List ℕ) → ((k : ℕ) → 1 ≤ times k xs → P k) → AllByRecursion P xs
all_from P [] h = tt
all_from P (x ∷ xs) h = (
  h x (let n = times_here x xs in omega (arith, n)),
  all_from P xs (λ k some. h k (let n = times_rest k x xs in omega (arith, n, some))),
)

pub all_at : (P : ℕ → Type 0) (xs : List ℕ) (k : ℕ) → AllByRecursion P xs → 1 ≤ times k xs → P k
all_at P [] k all some = absurd (none some)
  where
    none : 1 ≤ 0 → ⊥
    none h = omega (arith, h)
all_at P (x ∷ xs) k all some = elim (cases_eq x k) [
  | inl e ↦ subst P e all.0
  | inr other ↦ all_at P xs k all.1 (let n = times_other k x xs other in omega (arith, n, some))
]
