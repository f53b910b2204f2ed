-- What isn't refuted holds, where it can be tested.
use Rattle.std.proofs.Common.{◌≡◌, ◌≤◌, inl, inr, refl, ap, ap₂, ℕ, Bool, true, false, List, [], ◌∷◌, ℤ, pos, negsuc, arith}
use Rattle.std.proofs.lemmas.Bool.{cases_eq, cases_lt}

abbrev pub IsStable : Type 0 → Type 0
IsStable A = ((A → ⊥) → ⊥) → A

pub nat_stable : (n m : ℕ) → IsStable (n ≡ m)
nat_stable n m h = elim (cases_eq n m) [ inl e ↦ e | inr other ↦ absurd (h other) ]

pub bool_stable : (x y : Bool) → IsStable (x ≡ y)
bool_stable true true h = refl
bool_stable true false h = absurd (h (λ e. cc e))
bool_stable false true h = absurd (h (λ e. cc e))
bool_stable false false h = refl

pub int_stable : (x y : ℤ) → IsStable (x ≡ y)
int_stable (pos n) (pos m) h = ap pos (nat_stable n m (λ d. h (λ e. d (pos_is n m e))))
  where
    pos_is : (n m : ℕ) → pos n ≡ pos m → n ≡ m
    pos_is n m e = cc e
int_stable (negsuc n) (negsuc m) h = ap negsuc (nat_stable n m (λ d. h (λ e. d (negsuc_is n m e))))
  where
    negsuc_is : (n m : ℕ) → negsuc n ≡ negsuc m → n ≡ m
    negsuc_is n m e = cc e
int_stable (pos n) (negsuc m) h = absurd (h (λ e. cc e))
int_stable (negsuc n) (pos m) h = absurd (h (λ e. cc e))

pub le_stable : (n m : ℕ) → IsStable (n ≤ m)
le_stable n m h = elim (cases_lt m n) [ inl l ↦ absurd (h (λ w. omega (arith, l, w))) | inr l ↦ l ]

pub list_stable : (xs ys : List ℕ) → IsStable (xs ≡ ys)
list_stable [] [] h = refl
list_stable [] (y ∷ ys) h = absurd (h (λ e. cc e))
list_stable (x ∷ xs) [] h = absurd (h (λ e. cc e))
list_stable (x ∷ xs) (y ∷ ys) h = ap₂ (λ (z : ℕ) (zs : List ℕ). z ∷ zs) (nat_stable x y (λ d. h (λ e. d (heads x y xs ys e)))) (list_stable xs ys (λ d. h (λ e. d (tails x y xs ys e))))
  where
    heads : (x y : ℕ) (xs ys : List ℕ) → (x ∷ xs) ≡ (y ∷ ys) → x ≡ y
    heads x y xs ys e = cc e

    tails : (x y : ℕ) (xs ys : List ℕ) → (x ∷ xs) ≡ (y ∷ ys) → xs ≡ ys
    tails x y xs ys e = cc e
