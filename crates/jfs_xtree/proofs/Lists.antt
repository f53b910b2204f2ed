-- One more extent in a list that is cut in two.
use Rattle.std.proofs.Common.{◌≡◌, ◌≤◌, refl, sym, ap, ◌∙◌, ℕ, zero, suc, ◌+◌, List, [], ◌∷◌, ◌++◌, length, take, drop, arith}
use Rattle.std.proofs.lemmas.List.{take-append-drop}
use Rattle.jfs_bits.specs.declared.extent.Xad.{Xad}
use Rattle.jfs_xtree.specs.Node.{with_at}

-- at or before the border: into the first part
pub in_front : (xs : List Xad) (k p : ℕ) (x : Xad) → p ≤ k → k ≤ length xs → with_at xs p x ≡ with_at (take k xs) p x ++ drop k xs
in_front xs k zero x h l = ap (λ ys. x ∷ ys) (sym (take-append-drop k xs))
in_front [] zero (suc p) x h l = absurd (none p h)
  where
    none : (p : ℕ) → suc p ≤ zero → ⊥
    none p h = omega (arith, h)
in_front [] (suc k) (suc p) x h l = absurd (none k l)
  where
    none : (k : ℕ) → suc k ≤ 0 → ⊥
    none k h = omega (arith, h)
in_front (y ∷ xs) zero (suc p) x h l = absurd (none p h)
  where
    none : (p : ℕ) → suc p ≤ zero → ⊥
    none p h = omega (arith, h)
in_front (y ∷ xs) (suc k) (suc p) x h l = ap (λ ys. y ∷ ys) (in_front xs k p x (omega (arith, h)) (omega (arith, l)))

-- behind the border: into the second
pub in_back : (xs : List Xad) (k m p : ℕ) (x : Xad) → p ≡ k + m → p ≤ length xs → with_at xs p x ≡ take k xs ++ with_at (drop k xs) m x
in_back xs zero m p x e l = ap (λ i. with_at xs i x) (omega (arith, e))
in_back [] (suc k) m p x e l = absurd (none k m p e l)
  where
    none : (k m p : ℕ) → p ≡ suc k + m → p ≤ 0 → ⊥
    none k m p e h = omega (arith, e, h)
in_back (y ∷ xs) (suc k) m zero x e l = absurd (none k m e)
  where
    none : (k m : ℕ) → zero ≡ suc k + m → ⊥
    none k m e = omega (arith, e)
in_back (y ∷ xs) (suc k) m (suc p) x e l = ap (λ ys. y ∷ ys) (in_back xs k m p x (omega (arith, e)) (omega (arith, l)))

take_whole : (xs : List Xad) → take (length xs) xs ≡ xs
take_whole [] = refl
take_whole (x ∷ xs) = ap (λ ys. x ∷ ys) (take_whole xs)

drop_whole : (xs : List Xad) → drop (length xs) xs ≡ []
drop_whole [] = refl
drop_whole (x ∷ xs) = drop_whole xs

-- behind all others
pub alone : (xs rs : List Xad) (p : ℕ) (x : Xad) → p ≡ length xs → rs ≡ [] → with_at xs p x ≡ xs ++ with_at rs 0 x
alone xs rs p x e none =
    ap (λ i. with_at xs i x) e ∙ ap (λ ys. ys ++ x ∷ drop (length xs) xs) (take_whole xs) ∙ ap (λ ys. xs ++ x ∷ ys) (drop_whole xs) ∙ ap (λ ys. xs ++ with_at ys 0 x) (sym none)
