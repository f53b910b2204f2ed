-- Lists that an entry joins or leaves.
use Rattle.std.proofs.Common.{◌≡◌, ◌≤◌, ◌<◌, ◌+◌, ◌-◌, ℕ, zero, suc, List, [], ◌∷◌, length, get_or, map, refl, sym, ap, subst, inl, inr, arith}
use Rattle.std.specs.List.{flat_map, AllByRecursion, insert, remove}
use Rattle.std.proofs.lemmas.Bool.{cases_lt, cases_eq}
use Rattle.std.proofs.lemmas.List.Edits.{length-insert, get_or-insert_below, get_or-insert_at, get_or-insert_above, length-remove, get_or-remove_below, get_or-remove_above}
use Rattle.jfs_dtpage.specs.Slots.{times}
use Rattle.jfs_dtpage.specs.Order.{IsBefore, name_at, IsRising, GoesAt}
use Rattle.jfs_dtpage.proofs.Lists.{times-append}

-- ---- all of a list

module _ {P Q : ℕ → Type 0} where
  pub all_both : (xs : List ℕ) → ((x : ℕ) → P x → Q x) → AllByRecursion P xs → AllByRecursion Q xs
  all_both [] h all = tt
  all_both (x ∷ xs) h all = (h x all.0, all_both xs h all.1)

pub all_map : {X : Type 0} (P : ℕ → Type 0) (f g : ℕ → X) → ((x : ℕ) → P x → f x ≡ g x) → (xs : List ℕ) → AllByRecursion P xs → map f xs ≡ map g xs
all_map P f g h [] all = refl
all_map P f g h (x ∷ xs) all = rw (h x all.0, all_map P f g h xs all.1) refl

pub all_flat : (P : ℕ → Type 0) (f g : ℕ → List ℕ) → ((x : ℕ) → P x → f x ≡ g x) → (xs : List ℕ) → AllByRecursion P xs → flat_map f xs ≡ flat_map g xs
all_flat P f g h [] all = refl
all_flat P f g h (x ∷ xs) all = rw (h x all.0, all_flat P f g h xs all.1) refl

pub all_insert : (P : ℕ → Type 0) (xs : List ℕ) (i x : ℕ) → AllByRecursion P xs → P x → AllByRecursion P (insert xs i x)
all_insert P xs zero x all p = (p, all)
all_insert P [] (suc i) x all p = (p, tt)
all_insert P (y ∷ xs) (suc i) x all p = (all.0, all_insert P xs i x all.1 p)

pub all_remove : (P : ℕ → Type 0) (xs : List ℕ) (i : ℕ) → AllByRecursion P xs → AllByRecursion P (remove xs i)
all_remove P [] zero all = tt
all_remove P [] (suc i) all = tt
all_remove P (x ∷ xs) zero all = all.1
all_remove P (x ∷ xs) (suc i) all = (all.0, all_remove P xs i all.1)

pub all_get : (P : ℕ → Type 0) (xs : List ℕ) (i : ℕ) → i < length xs → AllByRecursion P xs → P (get_or xs i 0)
all_get P [] i h all = absurd (none i h)
  where
    none : (i : ℕ) → i < 0 → ⊥
    none i h = omega (arith, h)
all_get P (x ∷ xs) zero h all = all.0
all_get P (x ∷ xs) (suc i) h all = all_get P xs i (omega (arith, h)) all.1

-- ---- one more, one fewer

pub map_insert : {X : Type 0} (f : ℕ → X) (xs : List ℕ) (i x : ℕ) → map f (insert xs i x) ≡ insert (map f xs) i (f x)
map_insert f xs zero x = refl
map_insert f [] (suc i) x = refl
map_insert f (y ∷ xs) (suc i) x = ap (λ (z : List _). f y ∷ z) (map_insert f xs i x)

pub map_remove : {X : Type 0} (f : ℕ → X) (xs : List ℕ) (i : ℕ) → map f (remove xs i) ≡ remove (map f xs) i
map_remove f [] zero = refl
map_remove f [] (suc i) = refl
map_remove f (x ∷ xs) zero = refl
map_remove f (x ∷ xs) (suc i) = ap (λ (z : List _). f x ∷ z) (map_remove f xs i)

pub times_insert : (f : ℕ → List ℕ) (xs : List ℕ) (i x k : ℕ) → times k (flat_map f (insert xs i x)) ≡ times k (flat_map f xs) + times k (f x)
times_insert f xs zero x k = let a = times-append k (f x) (flat_map f xs) in omega (arith, a)
times_insert f [] (suc i) x k = let a = times-append k (f x) [] in omega (arith, a)
times_insert f (y ∷ xs) (suc i) x k =
    let a = times-append k (f y) (flat_map f (insert xs i x)) in let b = times-append k (f y) (flat_map f xs) in let r = times_insert f xs i x k in omega (arith, a, b, r)

pub times_remove : (f : ℕ → List ℕ) (xs : List ℕ) (i k : ℕ) → i < length xs → times k (flat_map f (remove xs i)) + times k (f (get_or xs i 0)) ≡ times k (flat_map f xs)
times_remove f [] i k h = absurd (none i h)
  where
    none : (i : ℕ) → i < 0 → ⊥
    none i h = omega (arith, h)
times_remove f (x ∷ xs) zero k h = let a = times-append k (f x) (flat_map f xs) in omega (arith, a)
times_remove f (x ∷ xs) (suc i) k h =
    let a = times-append k (f x) (flat_map f (remove xs i)) in let b = times-append k (f x) (flat_map f xs) in let r = times_remove f xs i k (omega (arith, h)) in omega (arith, a, b, r)

-- ---- names in order

-- the name at a place of the longer list
at_new : (names : List (List ℕ)) (place : ℕ) (name : List ℕ) (P : List ℕ → Type 0) (j : ℕ) → place ≤ length names → (j < place → P (name_at names j)) → (j ≡ place → P name) → (place < j → P (name_at names (j - 1))) → P (name_at (insert names place name) j)
at_new names place name P j w below at above = elim (cases_lt j place) [
  | inl l ↦ subst P (sym (get_or-insert_below names place name [] j l w)) (below l)
  | inr m ↦ elim (cases_eq j place) [
    | inl e ↦ subst (λ (k : ℕ). P (name_at (insert names place name) k)) (sym e) (subst P (sym (get_or-insert_at names place name [] w)) (at e))
    | inr other ↦
        let h : place < j = omega (arith, m, other) in
        let e : j - 1 + 1 ≡ j = omega (arith, h) in
        subst (λ (k : ℕ). P (name_at (insert names place name) k)) e (subst P (sym (get_or-insert_above names place name [] (j - 1) (omega (arith, h)) w)) (above h))
  ]
]

pub rising_insert : (names : List (List ℕ)) (place : ℕ) (name : List ℕ) → IsRising names → GoesAt names place name → IsRising (insert names place name)
rising_insert names place name r g i j h l =
    let w = g.within in
    let n = length-insert names place name g.within in
    at_new names place name (λ one. IsBefore one (name_at (insert names place name) j)) i g.within
    (λ a. at_new names place name (IsBefore (name_at names i)) j g.within (λ b. r i j h (omega (arith, b, w))) (λ b. g.before i a) (λ b. r i (j - 1) (omega (arith, a, b)) (omega (arith, b, n, l))))
    (λ a. at_new names place name (IsBefore name) j g.within (λ b. absurd (wrong i j place h a b)) (λ b. absurd (wrong_too i j place h a b)) (λ b. g.behind (j - 1) (omega (arith, b)) (omega (arith, b, n, l))))
    (λ a. at_new names place name (IsBefore (name_at names (i - 1))) j g.within (λ b. absurd (wrong_again i j place h a b)) (λ b. absurd (wrong_at_last i j place h a b)) (λ b. r (i - 1) (j - 1) (omega (arith, a, h)) (omega (arith, b, n, l))))
  where
    wrong : (i j place : ℕ) → i < j → i ≡ place → j < place → ⊥
    wrong i j place h a b = omega (arith, h, a, b)

    wrong_too : (i j place : ℕ) → i < j → i ≡ place → j ≡ place → ⊥
    wrong_too i j place h a b = omega (arith, h, a, b)

    wrong_again : (i j place : ℕ) → i < j → place < i → j < place → ⊥
    wrong_again i j place h a b = omega (arith, h, a, b)

    wrong_at_last : (i j place : ℕ) → i < j → place < i → j ≡ place → ⊥
    wrong_at_last i j place h a b = omega (arith, h, a, b)

-- the name at a place of the shorter list
at_rest : (names : List (List ℕ)) (place : ℕ) (P : List ℕ → Type 0) (j : ℕ) → place < length names → (j < place → P (name_at names j)) → (place ≤ j → P (name_at names (j + 1))) → P (name_at (remove names place) j)
at_rest names place P j w below above = elim (cases_lt j place) [
  | inl l ↦ subst P (sym (get_or-remove_below names place [] j l w)) (below l)
  | inr m ↦ subst P (sym (get_or-remove_above names place [] j m w)) (above m)
]

pub rising_remove : (names : List (List ℕ)) (place : ℕ) → IsRising names → place < length names → IsRising (remove names place)
rising_remove names place r w i j h l =
    let n = length-remove names place w in
    at_rest names place (λ one. IsBefore one (name_at (remove names place) j)) i w
    (λ a. at_rest names place (IsBefore (name_at names i)) j w (λ b. r i j h (omega (arith, b, w))) (λ b. r i (j + 1) (omega (arith, h)) (omega (arith, n, l))))
    (λ a. at_rest names place (IsBefore (name_at names (i + 1))) j w (λ b. absurd (wrong i j place h a b)) (λ b. r (i + 1) (j + 1) (omega (arith, h)) (omega (arith, n, l))))
  where
    wrong : (i j place : ℕ) → i < j → place ≤ i → j < place → ⊥
    wrong i j place h a b = omega (arith, h, a, b)
