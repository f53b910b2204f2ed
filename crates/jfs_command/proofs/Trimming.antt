-- Zeros at the end of a list.
use Rattle.std.proofs.Common.{◌≡◌, ◌≢◌, ℕ, Bool, true, false, cond, List, [], ◌∷◌, ◌++◌, length, refl, ap, ◌∙◌}
use Rattle.std.specs.Prelude.{◌==◌, ◌&&◌}
use Rattle.std.specs.List.{list_all}
use Rattle.std.proofs.lemmas.Bool.{ne_eqb}
use Rattle.jfs_command.specs.Text.{trimmed}

abbrev all_zeros : List ℕ → Bool
all_zeros xs = list_all (λ x. x == 0) xs

all_zeros-push : (xs : List ℕ) → all_zeros (xs ++ 0 ∷ []) ≡ all_zeros xs
all_zeros-push [] = refl
all_zeros-push (x ∷ xs) = ap (λ (b : Bool). (x == 0) && b) (all_zeros-push xs)

choose : {A : Type 0} (b c : Bool) (x y z : A) → b ≡ c → y ≡ z → cond b x y ≡ cond c x z
choose b c x y z e f = rw (e, f) refl

-- a zero at the end is nothing
pub trimmed-zero : (xs : List ℕ) → trimmed (xs ++ 0 ∷ []) ≡ trimmed xs
unfolding trimmed
trimmed-zero [] = refl
trimmed-zero (x ∷ xs) = choose ((x == 0) && all_zeros (xs ++ 0 ∷ [])) ((x == 0) && all_zeros xs) [] (x ∷ trimmed (xs ++ 0 ∷ [])) (x ∷ trimmed xs) (ap (λ (b : Bool). (x == 0) && b) (all_zeros-push xs)) (ap (λ (z : List ℕ). x ∷ z) (trimmed-zero xs))

no_and : (a b : Bool) → b ≡ false → (a && b) ≡ false
no_and true b e = e
no_and false b e = refl

and_no : (a b : Bool) → a ≡ false → (a && b) ≡ false
and_no a b e = rw e refl

some_left : (xs : List ℕ) (y : ℕ) → y ≢ 0 → all_zeros (xs ++ y ∷ []) ≡ false
some_left [] y h = and_no (y == 0) true (ne_eqb y 0 h)
some_left (x ∷ xs) y h = no_and (x == 0) (all_zeros (xs ++ y ∷ [])) (some_left xs y h)

other : {A : Type 0} (b : Bool) (x y : A) → b ≡ false → cond b x y ≡ y
other b x y e = rw e refl

-- another number at the end stays
pub trimmed-other : (xs : List ℕ) (y : ℕ) → y ≢ 0 → trimmed (xs ++ y ∷ []) ≡ xs ++ y ∷ []
unfolding trimmed
trimmed-other [] y h = other (all_zeros (y ∷ [])) [] (y ∷ []) (some_left [] y h)
trimmed-other (x ∷ xs) y h =
    other (all_zeros (x ∷ (xs ++ y ∷ []))) [] (x ∷ trimmed (xs ++ y ∷ [])) (some_left (x ∷ xs) y h) ∙ ap (λ (z : List ℕ). x ∷ z) (trimmed-other xs y h)

-- nothing is nothing
pub trimmed-nil : (xs : List ℕ) → length xs ≡ 0 → xs ≡ trimmed xs
unfolding trimmed
trimmed-nil [] e = refl
trimmed-nil (x ∷ xs) e = absurd cc
