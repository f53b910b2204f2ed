-- The entries of a page as a list: one more, one replaced, a first part, a last part.
use Rattle.std.proofs.Common.{◌≡◌, ◌≤◌, ◌<◌, refl, sym, ap, ◌∙◌, subst, ℕ, zero, suc, ◌+◌, List, ◌∷◌, ◌++◌, length, take, drop, arith}
use Rattle.jfs_bits.specs.declared.extent.Xad.{Xad}
use Rattle.jfs_xtpage.specs.Page.{entry_of, entries_from}

pub length-entries : (bytes : List ℕ) (p n : ℕ) → length (entries_from bytes p n) ≡ n
length-entries bytes p zero = refl
length-entries bytes p (suc n) = let h = length-entries bytes (suc p) n in omega (arith, h)

-- the same entries, perhaps at other places
pub shifted : (new old : List ℕ) (q p n : ℕ) → ((i j : ℕ) → p ≤ i → i < p + n → j + p ≡ i + q → entry_of new j ≡ entry_of old i) → entries_from new q n ≡ entries_from old p n
shifted new old q p zero h = refl
shifted new old q p (suc n) h =
    ap (λ x. x ∷ entries_from new (suc q) n) (h p q (omega arith) (omega arith) (omega arith))
    ∙ ap (λ xs. entry_of old p ∷ xs) (shifted new old (suc q) (suc p) n (λ i j a b e. h i j (omega (arith, a)) (omega (arith, b)) (omega (arith, e))))

pub same : (new old : List ℕ) (n : ℕ) → ((i : ℕ) → i < n → entry_of new i ≡ entry_of old i) → entries_from new 0 n ≡ entries_from old 0 n
same new old n h = shifted new old 0 0 n (λ i j a b e. subst (λ k. entry_of new k ≡ entry_of old i) (at i j e) (h i (omega (arith, b))))
  where
    at : (i j : ℕ) → j + 0 ≡ i + 0 → i ≡ j
    at i j e = omega (arith, e)

-- the first entries
pub first : (bytes : List ℕ) (p k n : ℕ) → k ≤ n → entries_from bytes p k ≡ take k (entries_from bytes p n)
first bytes p zero n h = refl
first bytes p (suc k) zero h = absurd (none k h)
  where
    none : (k : ℕ) → suc k ≤ zero → ⊥
    none k h = omega (arith, h)
first bytes p (suc k) (suc n) h = ap (λ xs. entry_of bytes p ∷ xs) (first bytes (suc p) k n (omega (arith, h)))

-- the last ones
pub last : (bytes : List ℕ) (p k n q m : ℕ) → n ≡ k + m → q ≡ p + k → entries_from bytes q m ≡ drop k (entries_from bytes p n)
last bytes p zero n q m e at = ap (λ i. entries_from bytes i m) (omega (arith, at)) ∙ ap (λ i. entries_from bytes p i) (omega (arith, e))
last bytes p (suc k) zero q m e at = absurd (none k m e)
  where
    none : (k m : ℕ) → zero ≡ suc k + m → ⊥
    none k m e = omega (arith, e)
last bytes p (suc k) (suc n) q m e at = last bytes (suc p) k n q m (omega (arith, e)) (omega (arith, at))

-- one more entry at place m
pub inserted : (new old : List ℕ) (p i n m : ℕ) (x : Xad) → m ≡ p + i → i ≤ n → ((j : ℕ) → p ≤ j → j < m → entry_of new j ≡ entry_of old j) → entry_of new m ≡ x
    → ((j : ℕ) → m ≤ j → j < p + n → entry_of new (suc j) ≡ entry_of old j) → entries_from new p (suc n) ≡ take i (entries_from old p n) ++ x ∷ drop i (entries_from old p n)
inserted new old p zero n m x at h before here behind =
    let is : m ≡ p = omega (arith, at) in
    ap (λ y. y ∷ entries_from new (suc p) n) (ap (entry_of new) (sym is) ∙ here)
    ∙ ap (λ xs. x ∷ xs) (shifted new old (suc p) p n (λ i j a b e. subst (λ k. entry_of new k ≡ entry_of old i) (next i j p e) (behind i (omega (arith, a, is)) b)))
  where
    next : (i j p : ℕ) → j + p ≡ i + suc p → suc i ≡ j
    next i j p e = omega (arith, e)
inserted new old p (suc i) zero m x at h before here behind = absurd (none i h)
  where
    none : (i : ℕ) → suc i ≤ zero → ⊥
    none i h = omega (arith, h)
inserted new old p (suc i) (suc n) m x at h before here behind =
    ap (λ y. y ∷ entries_from new (suc p) (suc n)) (before p (omega arith) (omega (arith, at)))
    ∙ ap (λ xs. entry_of old p ∷ xs) (inserted new old (suc p) i n m x (omega (arith, at)) (omega (arith, h)) (λ j a b. before j (omega (arith, a)) b) here (λ j a b. behind j a (omega (arith, b))))

-- one entry replaced at place m
pub replaced : (new old : List ℕ) (p i n m : ℕ) (x : Xad) → m ≡ p + i → i < n → ((j : ℕ) → p ≤ j → j < m → entry_of new j ≡ entry_of old j) → entry_of new m ≡ x
    → ((j : ℕ) → m < j → j < p + n → entry_of new j ≡ entry_of old j) → entries_from new p n ≡ take i (entries_from old p n) ++ x ∷ drop (suc i) (entries_from old p n)
replaced new old p i zero m x at h before here behind = absurd (none i h)
  where
    none : (i : ℕ) → i < zero → ⊥
    none i h = omega (arith, h)
replaced new old p zero (suc n) m x at h before here behind =
    let is : m ≡ p = omega (arith, at) in
    ap (λ y. y ∷ entries_from new (suc p) n) (ap (entry_of new) (sym is) ∙ here)
    ∙ ap (λ xs. x ∷ xs) (shifted new old (suc p) (suc p) n (λ i j a b e. subst (λ k. entry_of new k ≡ entry_of old i) (place i j p e) (behind i (omega (arith, a, is)) (omega (arith, b)))))
  where
    place : (i j p : ℕ) → j + suc p ≡ i + suc p → i ≡ j
    place i j p e = omega (arith, e)
replaced new old p (suc i) (suc n) m x at h before here behind =
    ap (λ y. y ∷ entries_from new (suc p) n) (before p (omega arith) (omega (arith, at)))
    ∙ ap (λ xs. entry_of old p ∷ xs) (replaced new old (suc p) i n m x (omega (arith, at)) (omega (arith, h)) (λ j a b. before j (omega (arith, a)) b) here (λ j a b. behind j a (omega (arith, b))))
