-- Lists in two parts, and one more among them.
use Rattle.std.proofs.Common.{◌≡◌, ◌≤◌, ◌<◌, ◌+◌, ℕ, zero, suc, List, [], ◌∷◌, ◌++◌, length, map, take, refl, sym, ap, subst, arith}
use Rattle.std.specs.Prelude.{slice_get, Some}
use Rattle.std.specs.List.{insert, remove}
use Rattle.std.proofs.lemmas.List.{get_or_append_left, get_or-append-add, get_or-take, length-append, length-take}
use Rattle.std.proofs.lemmas.Option.{same_Some}
use Rattle.jfs_dtpage.specs.Order.{IsBefore, name_at, IsRising, GoesAt}

none : (n : ℕ) → suc n ≤ 0 → ⊥
none n h = omega (arith, h)

below_none : (n : ℕ) → n < 0 → ⊥
below_none n h = omega (arith, h)

-- ---- one more

pub insert_front : {X : Type 0} (a b : List X) (p : ℕ) (x : X) → p ≤ length a → insert (a ++ b) p x ≡ insert a p x ++ b
insert_front [] b zero x h = refl
insert_front [] b (suc p) x h = absurd (none p h)
insert_front (y ∷ a) b zero x h = refl
insert_front (y ∷ a) b (suc p) x h = ap (λ (z : List _). y ∷ z) (insert_front a b p x (omega (arith, h)))

pub insert_back : {X : Type 0} (a b : List X) (p m : ℕ) (x : X) → p ≡ length a + m → insert (a ++ b) p x ≡ a ++ insert b m x
insert_back [] b p m x e = ap (λ (k : ℕ). insert b k x) (omega (arith, e))
insert_back (y ∷ a) b zero m x e = absurd (wrong (length a) m e)
  where
    wrong : (n m : ℕ) → 0 ≡ suc n + m → ⊥
    wrong n m e = omega (arith, e)
insert_back (y ∷ a) b (suc p) m x e = ap (λ (z : List _). y ∷ z) (insert_back a b p m x (omega (arith, e)))

pub map_insert : {X Y : Type 0} (f : X → Y) (xs : List X) (p : ℕ) (x : X) → map f (insert xs p x) ≡ insert (map f xs) p (f x)
map_insert f xs zero x = refl
map_insert f [] (suc p) x = refl
map_insert f (y ∷ xs) (suc p) x = ap (λ (z : List _). f y ∷ z) (map_insert f xs p x)

-- ---- the last one

pub last_moves : {X : Type 0} (xs : List X) (x : X) (n : ℕ) → suc n ≡ length xs → slice_get xs n ≡ Some x → xs ≡ remove xs n ++ x ∷ []
last_moves [] x n e is = absurd (wrong n e)
  where
    wrong : (n : ℕ) → suc n ≡ 0 → ⊥
    wrong n e = omega (arith, e)
last_moves (y ∷ []) x zero e is = ap (λ (z : _). z ∷ []) (same_Some y x is)
last_moves (y ∷ z ∷ xs) x zero e is = absurd (wrong (length xs) e)
  where
    wrong : (n : ℕ) → 1 ≡ suc (suc n) → ⊥
    wrong n e = omega (arith, e)
last_moves (y ∷ xs) x (suc n) e is = ap (λ (z : List _). y ∷ z) (last_moves xs x n (omega (arith, e)) is)

pub take_more : {X : Type 0} (xs : List X) (p : ℕ) (x : X) → slice_get xs p ≡ Some x → insert (take p xs) p x ≡ take (suc p) xs
take_more [] p x is = absurd cc
take_more (y ∷ xs) zero x is = ap (λ (z : _). z ∷ []) (sym (same_Some y x is))
take_more (y ∷ xs) (suc p) x is = ap (λ (z : List _). y ∷ z) (take_more xs p x is)

pub regroup : {X : Type 0} (a b : List X) (x : X) → a ++ x ∷ b ≡ (a ++ x ∷ []) ++ b
regroup [] b x = refl
regroup (y ∷ a) b x = ap (λ (z : List _). y ∷ z) (regroup a b x)

-- ---- names in order

-- the last name of the first part goes before the second one
pub goes_first : (a b : List (List ℕ)) (k : ℕ) → suc k ≡ length a → IsRising (a ++ b) → GoesAt b 0 (name_at a k)
goes_first a b k e rising = record {
  within = omega arith;
  before = λ i h. absurd (below_none i h);
  behind = λ i h l. subst (λ (n : List ℕ). IsBefore n (name_at b i)) (get_or_append_left a b [] k (omega (arith, e)))
      (subst (IsBefore (name_at (a ++ b) k)) (get_or-append-add a b i []) (rising k (length a + i) (omega (arith, e)) (let n = length-append a b in omega (arith, n, l))));
}

pub goes_front : (a b : List (List ℕ)) (p : ℕ) (name : List ℕ) → p ≤ length a → GoesAt (a ++ b) p name → GoesAt a p name
goes_front a b p name h g = record {
  within = h;
  before = λ i l. subst (λ (n : List ℕ). IsBefore n name) (get_or_append_left a b [] i (omega (arith, l, h))) (g.before i l);
  behind = λ i m l. subst (IsBefore name) (get_or_append_left a b [] i l) (g.behind i m (let n = length-append a b in omega (arith, n, l)));
}

pub goes_back : (a b : List (List ℕ)) (p m : ℕ) (name : List ℕ) → p ≡ length a + m → GoesAt (a ++ b) p name → GoesAt b m name
goes_back a b p m name e g = record {
  within = (let w = g.within in let n = length-append a b in omega (arith, w, n, e));
  before = λ i l. subst (λ (n : List ℕ). IsBefore n name) (get_or-append-add a b i []) (g.before (length a + i) (omega (arith, l, e)));
  behind = λ i h l. subst (IsBefore name) (get_or-append-add a b i []) (g.behind (length a + i) (omega (arith, h, e)) (let n = length-append a b in omega (arith, n, l)));
}

-- a name goes behind those before it
pub goes_last : (names : List (List ℕ)) (p : ℕ) → p < length names → IsRising names → GoesAt (take p names) p (name_at names p)
goes_last names p h rising = record {
  within = (let n = length-take p names in omega (arith, n, h));
  before = λ i l. subst (λ (n : List ℕ). IsBefore n (name_at names p)) (sym (get_or-take p names i [] l)) (rising i p l h);
  behind = λ i m l. absurd (let n = length-take p names in wrong i p (length (take p names)) m l (omega (arith, n)));
}
  where
    wrong : (i p n : ℕ) → p ≤ i → i < n → n ≤ p → ⊥
    wrong i p n a b c = omega (arith, a, b, c)
