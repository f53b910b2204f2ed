-- Sums with one place changed.
use Rattle.std.proofs.Common.{◌≡◌, ◌≢◌, ◌≤◌, ◌<◌, refl, sym, ap, ◌∙◌, ℕ, zero, suc, ◌+◌, ◌⊎◌, inl, inr, Bool, true, false, ◌==◌, arith, ne_eqb, eq-eqb, eqb-true, true≢false}
use Rattle.jfs_objects.specs.Owners.{sum_below}
use Rattle.jfs_objects.specs.Changes.{put}

pub sum_same : (n : ℕ) (f g : ℕ → ℕ) → ((k : ℕ) → k < n → g k ≡ f k) → sum_below n g ≡ sum_below n f
unfolding sum_below
sum_same zero f g h = refl
sum_same (suc n) f g h = let a = sum_same n f g (λ k l. h k (omega arith)) in let b = h n (omega arith) in omega (arith, a, b)

-- nothing anywhere
pub sum_zero : (n : ℕ) (f : ℕ → ℕ) → ((k : ℕ) → f k ≡ 0) → sum_below n f ≡ 0
unfolding sum_below
sum_zero zero f h = refl
sum_zero (suc n) f h = let a = sum_zero n f h in let b = h n in omega (arith, a, b)

-- one place changed
pub sum_put : (n : ℕ) (f g : ℕ → ℕ) (m : ℕ) → m < n → ((k : ℕ) → k < n → k ≢ m → g k ≡ f k) → sum_below n g + f m ≡ sum_below n f + g m
unfolding sum_below
sum_put zero f g m l h = absurd (omega (arith, l))
sum_put (suc n) f g m l h = elim (eq_or_less m n l) [
  | inl e ↦ rw e (let a = sum_same n f g (λ k i. h k (omega arith) (below m n k e i)) in omega (arith, a))
  | inr e ↦ let a = sum_put n f g m e (λ k i. h k (omega arith)) in let b = h n (omega arith) (above m n e) in omega (arith, a, b)
]
  where
    eq_or_less : (m n : ℕ) → m < suc n → (m ≡ n) ⊎ (m < n)
    eq_or_less m n l = grind arith

    below : (m n k : ℕ) → m ≡ n → k < n → k ≢ m
    below m n k e i = grind arith

    above : (m n : ℕ) → m < n → n ≢ m
    above m n i = grind arith

-- a map at the place that is put, and at others
pub put_here : {X : Type 0} (m : ℕ) (x : X) (f : ℕ → X) → put m x f m ≡ x
put_here m x f = rw (eq-eqb m m refl) refl

pub put_other : {X : Type 0} (m : ℕ) (x : X) (f : ℕ → X) (n : ℕ) → n ≢ m → put m x f n ≡ f n
put_other m x f n h = rw (ne_eqb n m h) refl

pub eq_or_not : (n m : ℕ) → (n ≡ m) ⊎ (n ≢ m)
eq_or_not n m = by_case (n == m) refl
  where
    by_case : (x : Bool) → (n == m) ≡ x → (n ≡ m) ⊎ (n ≢ m)
    by_case true e = inl (eqb-true n m e)
    by_case false e = inr (λ h. true≢false (sym (eq-eqb n m h) ∙ e))

-- what holds of a map at the place, and of the old one elsewhere, holds of the map with the place put
pub put_is : {X : Type 0} (f g : ℕ → X) (m : ℕ) (x : X) → g m ≡ x → ((k : ℕ) → k ≢ m → g k ≡ f k) → (k : ℕ) → g k ≡ put m x f k
put_is f g m x here others k = elim (eq_or_not k m) [
  | inl e ↦ ap g e ∙ here ∙ sym (put_here m x f) ∙ ap (put m x f) (sym e)
  | inr e ↦ others k e ∙ sym (put_other m x f k e)
]

-- a part, and two parts
pub sum_one : (n : ℕ) (f : ℕ → ℕ) (k : ℕ) → k < n → f k ≤ sum_below n f
sum_one n f k l = let a = sum_put n f (put k 0 f) k l (λ m i h. put_other k 0 f m h) in let b = put_here k 0 f in omega (arith, a, b)

pub sum_two : (n : ℕ) (f : ℕ → ℕ) (k m : ℕ) → k < n → m < n → m ≢ k → f k + f m ≤ sum_below n f
sum_two n f k m l i h =
    let a = sum_put n f (put k 0 f) k l (λ j _ e. put_other k 0 f j e) in
    let b = put_here k 0 f in
    let c = sum_one n (put k 0 f) m i in
    let d = put_other k 0 f m h in
    omega (arith, a, b, c, d)

pub zero_or_more : (n : ℕ) → (n ≡ 0) ⊎ (0 < n)
zero_or_more zero = inl refl
zero_or_more (suc n) = inr (omega arith)
