-- The laws of names, for the prover alone.
use Rattle.std.proofs.Common.{◌≡◌, ◌⊎◌, inl, inr, refl, sym, ap, ◌∙◌, ℕ, Bool, true, false, List, [], ◌∷◌, ◌++◌, arith}
use Rattle.std.specs.Prelude.{not}
use Rattle.std.specs.Ordering.{is_lt, is_gt, nat_cmp, ordering_reverse, ordering_then}
use Rattle.std.specs.Cmp.{ranked, upto, tied_itself, nat_cmp_total}
use Rattle.std.specs.Cmp.Lexicographic.{slice_cmp, nat_list_cmp_total}
use Rattle.std.specs.declared.cmp.Ordering.{Ordering}
use Rattle.std.specs.declared.cmp.Ordering.TheVariants.{Less, Equal, Greater}
use Rattle.jfs_name.specs.declared.name.NameEntry.{NameEntry}
use Rattle.jfs_tree.specs.Walk.{IsOrder}
use Rattle.jfs_tree.specs.Edit.{IsPoint}
use Rattle.jfs_tree.specs.Shrink.{IsLoose}
use Rattle.jfs_dtree.specs.Node.{not_after, name_scale}

abbrev pub next_of : List ℕ → List ℕ
next_of a = a ++ 0 ∷ []

turn_lt : (r : Ordering) → is_lt (ordering_reverse r) ≡ is_gt r
turn_lt Less = refl
turn_lt Equal = refl
turn_lt Greater = refl

turned : (a b : List ℕ) → is_lt (slice_cmp nat_cmp b a) ≡ is_gt (slice_cmp nat_cmp a b)
turned a b = ap is_lt (nat_list_cmp_total.antisymm b a) ∙ turn_lt (slice_cmp nat_cmp a b)

not_gt : (r : Bool) → not r ≡ true → r ≡ false
not_gt true e = absurd cc
not_gt false e = refl

not_true : (r : Bool) → not r ≡ false → r ≡ true
not_true true e = refl
not_true false e = absurd cc

up : (a b : List ℕ) → not_after a b ≡ true → is_gt (slice_cmp nat_cmp a b) ≡ false
up a b h = sym (turned a b) ∙ not_gt (is_lt (slice_cmp nat_cmp b a)) h

down : (a b : List ℕ) → is_gt (slice_cmp nat_cmp a b) ≡ false → not_after a b ≡ true
down a b h = ap not (turned a b ∙ h)

pub name_trans : (a b c : List ℕ) → not_after a b ≡ true → not_after b c ≡ true → not_after a c ≡ true
name_trans a b c p q = down a c (upto nat_list_cmp_total a b c (up a b p) (up b c q))

is_less : (r : Ordering) → is_lt r ≡ true → r ≡ Less
is_less Less e = refl
is_less Equal e = absurd cc
is_less Greater e = absurd cc

-- a comes before b exactly where b doesn't come before it or at it
pub before_of : (a b : List ℕ) → not_after b a ≡ false → slice_cmp nat_cmp a b ≡ Less
before_of a b h = is_less (slice_cmp nat_cmp a b) (not_true (is_lt (slice_cmp nat_cmp a b)) h)

pub not_from : (a b : List ℕ) → slice_cmp nat_cmp a b ≡ Less → not_after b a ≡ false
not_from a b h = ap (λ r. not (is_lt r)) h

pub before_up : (a b : List ℕ) → slice_cmp nat_cmp a b ≡ Less → not_after a b ≡ true
before_up a b h = down a b (ap is_gt h)

pub name_refl : (a : List ℕ) → not_after a a ≡ true
name_refl a = down a a (ap is_gt (tied_itself nat_list_cmp_total a))

-- what comes after a name, at once
pub longer : (a : List ℕ) → slice_cmp nat_cmp a (next_of a) ≡ Less
longer [] = refl
longer (x ∷ a) = ap (λ r. ordering_then r (slice_cmp nat_cmp a (next_of a))) (tied_itself nat_cmp_total x) ∙ longer a

nothing_up : (b : List ℕ) → is_gt (slice_cmp nat_cmp [] b) ≡ false
nothing_up [] = refl
nothing_up (y ∷ b) = refl

zero_up : (y : ℕ) (r t : Ordering) → r ≡ nat_cmp 0 y → is_gt t ≡ false → is_gt (ordering_then r t) ≡ false
zero_up y Less t is h = refl
zero_up y Equal t is h = h
zero_up y Greater t is h = absurd (let l = ranked 0 y Greater is in omega (arith, l))

then_up : (r s t : Ordering) → ordering_then r s ≡ Less → (s ≡ Less → is_gt t ≡ false) → is_gt (ordering_then r t) ≡ false
then_up Less s t h f = refl
then_up Equal s t h f = f h
then_up Greater s t h f = absurd cc

next_up : (a b : List ℕ) → slice_cmp nat_cmp a b ≡ Less → is_gt (slice_cmp nat_cmp (next_of a) b) ≡ false
next_up [] [] h = absurd cc
next_up [] (y ∷ b) h = zero_up y (nat_cmp 0 y) (slice_cmp nat_cmp [] b) refl (nothing_up b)
next_up (x ∷ a) [] h = absurd cc
next_up (x ∷ a) (y ∷ b) h = then_up (nat_cmp x y) (slice_cmp nat_cmp a b) (slice_cmp nat_cmp (next_of a) b) h (next_up a b)

pub next_after : (a b : List ℕ) → slice_cmp nat_cmp a b ≡ Less → not_after (next_of a) b ≡ true
next_after a b h = down (next_of a) b (next_up a b h)

pub next_from : (a b : List ℕ) → not_after (next_of a) b ≡ true → not_after a b ≡ true
next_from a b h = name_trans a (next_of a) b (before_up a (next_of a) (longer a)) h

least_up : (b : List ℕ) → not_after [] b ≡ true
least_up b = down [] b (nothing_up b)

side : (k x : List ℕ) (r : Bool) → r ≡ not_after k x → (not_after k x ≡ true) ⊎ (not_after (next_of x) k ≡ true)
side k x true e = inl (sym e)
side k x false e = inr (next_after x k (before_of x k (sym e)))

clear : (k : List ℕ) (x e : NameEntry) → name_scale.fits k e ≡ true → (not_after (next_of e.name) x.name ≡ true) ⊎ (not_after (next_of x.name) e.name ≡ true)
    → (not_after k x.name ≡ true) ⊎ (not_after (next_of x.name) k ≡ true)
clear k x e f apart = side k x.name (not_after k x.name) refl

pub order : IsOrder name_scale
order = record {
  refl_le = name_refl;
  trans_le = name_trans;
  least_le = least_up;
  span_le = λ e. before_up e.name (next_of e.name) (longer e.name);
  takes_place = λ e. not_from e.name (next_of e.name) (longer e.name);
  fits_least = λ e. least_up e.name;
  clear_key = clear;
  fits_before = λ k x e above before fits. above;
}

pub loose : IsLoose name_scale
loose = record {
  later = λ k a b ends fits. name_trans k a.name b.name fits (next_from a.name b.name ends);
  lower = λ k l e below fits. name_trans k l e.name below fits;
}

-- a name takes one place
pub point : (x : NameEntry) → IsPoint name_scale x
point x = record {
  next = λ k h. next_after x.name k (before_of x.name k h);
  wide = not_from x.name (next_of x.name) (longer x.name);
}
