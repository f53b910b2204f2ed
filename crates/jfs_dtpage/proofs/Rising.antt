-- Names in rising order.
use Rattle.std.proofs.Common.{◌≡◌, ◌≤◌, ◌<◌, ◌+◌, ◌-◌, ◌/◌, ℕ, zero, suc, List, [], ◌∷◌, length, inl, inr, refl, sym, ap, ◌∙◌, subst, arith}
use Rattle.std.specs.Ordering.{nat_cmp, ordering_then, ordering_reverse}
use Rattle.std.specs.Cmp.Lexicographic.{slice_cmp}
use Rattle.std.specs.declared.cmp.Ordering.{Ordering}
use Rattle.std.specs.declared.cmp.Ordering.TheVariants.{Less, Equal, Greater}
use Rattle.std.specs.Ordering.{MatchOrdering}
use Rattle.std.proofs.lemmas.Bool.{cases_lt, cases_eq}
use Rattle.std.proofs.lemmas.Cmp.{nat_list_cmp_total, ranked}
use Rattle.jfs_dtpage.specs.Order.{IsBefore, name_at, IsRising}

pub before_trans : (a b c : List ℕ) → IsBefore a b → IsBefore b c → IsBefore a c
before_trans a b c x y = nat_list_cmp_total.trans a b c x y

pub before_other : (a b : List ℕ) → slice_cmp nat_cmp a b ≡ Greater → IsBefore b a
before_other a b g = nat_list_cmp_total.antisymm b a ∙ ap ordering_reverse g

same_first : (x y : ℕ) (r : Ordering) (rest : Ordering) → r ≡ nat_cmp x y → ordering_then r rest ≡ Equal → (x ≡ y) × (rest ≡ Equal)
same_first x y r rest e h = go r (ranked x y r e) h
  where
    go : {rest : Ordering} {x y : ℕ} (r : Ordering) → MatchOrdering r (x < y) (x ≡ y) (y < x) → ordering_then r rest ≡ Equal → (x ≡ y) × (rest ≡ Equal)
    go Less m h = absurd cc
    go Equal m h = (m, h)
    go Greater m h = absurd cc

pub same_names : (a b : List ℕ) → slice_cmp nat_cmp a b ≡ Equal → a ≡ b
same_names [] [] h = refl
same_names [] (y ∷ b) h = absurd cc
same_names (x ∷ a) [] h = absurd cc
same_names (x ∷ a) (y ∷ b) h = let s = same_first x y (nat_cmp x y) (slice_cmp nat_cmp a b) refl h in rw (s.0, same_names a b s.1) refl

-- where each name is before the next one, they rise
pub rising_from_next : (names : List (List ℕ)) → ((i : ℕ) → suc i < length names → IsBefore (name_at names i) (name_at names (suc i))) → IsRising names
rising_from_next names next i zero h l = absurd (none i h)
  where
    none : (i : ℕ) → i < 0 → ⊥
    none i h = omega (arith, h)
rising_from_next names next i (suc j) h l = elim (cases_lt i j) [
  | inl a ↦ before_trans (name_at names i) (name_at names j) (name_at names (suc j)) (rising_from_next names next i j a (omega (arith, l))) (next j l)
  | inr b ↦ let e : i ≡ j = omega (arith, h, b) in subst (λ (k : ℕ). IsBefore (name_at names k) (name_at names (suc j))) (sym e) (next j l)
]

-- ---- binary search

pub middle_within : (low high : ℕ) → low < high → low + (high - low) / 2 < high
middle_within low high h = omega (arith, h)

-- what is before the name in the middle is before what that is before
pub low_moves : (names : List (List ℕ)) (name : List ℕ) (middle : ℕ) → IsRising names → middle < length names → IsBefore (name_at names middle) name → (i : ℕ) → i < middle + 1 → IsBefore (name_at names i) name
low_moves names name middle r m b i h = elim (cases_lt i middle) [
  | inl a ↦ before_trans (name_at names i) (name_at names middle) name (r i middle a m) b
  | inr a ↦ let e : i ≡ middle = omega (arith, a, h) in subst (λ (k : ℕ). IsBefore (name_at names k) name) (sym e) b
]

pub high_moves : (names : List (List ℕ)) (name : List ℕ) (middle : ℕ) → IsRising names → IsBefore name (name_at names middle) → (i : ℕ) → middle ≤ i → i < length names → IsBefore name (name_at names i)
high_moves names name middle r b i h l = elim (cases_eq i middle) [
  | inl e ↦ subst (λ (k : ℕ). IsBefore name (name_at names k)) (sym e) b
  | inr other ↦ before_trans name (name_at names middle) (name_at names i) b (r middle i (omega (arith, h, other)) l)
]

-- ---- what a comparison answered

pub found_less : (names : List (List ℕ)) (name found : List ℕ) (middle : ℕ) (r : Ordering) → r ≡ slice_cmp nat_cmp found name → r ≡ Less → found ≡ name_at names middle → IsBefore (name_at names middle) name
found_less names name found middle r e is f = subst (λ (n : List ℕ). IsBefore n name) f (sym e ∙ is)

pub found_greater : (names : List (List ℕ)) (name found : List ℕ) (middle : ℕ) (r : Ordering) → r ≡ slice_cmp nat_cmp found name → r ≡ Greater → found ≡ name_at names middle → IsBefore name (name_at names middle)
found_greater names name found middle r e is f = subst (λ (n : List ℕ). IsBefore name n) f (before_other found name (sym e ∙ is))

pub found_equal : (names : List (List ℕ)) (name found : List ℕ) (middle : ℕ) (r : Ordering) → r ≡ slice_cmp nat_cmp found name → r ≡ Equal → found ≡ name_at names middle → name_at names middle ≡ name
found_equal names name found middle r e is f = sym f ∙ same_names found name (sym e ∙ is)
