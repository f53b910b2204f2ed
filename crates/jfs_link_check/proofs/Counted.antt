-- Counts over one directory more.
use Rattle.std.proofs.Common.{◌≡◌, ◌<◌, refl, sym, ap, ◌∙◌, subst, ℕ, suc, ◌+◌, Bool, true, false, ◌==◌, if◌then◌else◌, List, length, get_or, replicate, arith}
use Rattle.std.proofs.lemmas.Bool.{eqb-true, eqb-false}
use Rattle.std.proofs.lemmas.Bool.Decides.{nat_tests}
use Rattle.std.proofs.lemmas.List.{get_or-replicate, length-replicate}
use Rattle.jfs_object_check.specs.objects.specs.Owners.{sum_below}
use Rattle.jfs_link_check.specs.Counts.{CountedNames, CountsBelow, AddsNames, count_of, namer_of, ends}

sum_more : (m : ℕ) (f : ℕ → ℕ) → sum_below (suc m) f ≡ sum_below m f + f m
unfolding sum_below
sum_more m f = refl

sum_none : (f : ℕ → ℕ) → sum_below 0 f ≡ 0
unfolding sum_below
sum_none f = refl

pub none_counted : (most : ℕ) (names : ℕ → ℕ → ℕ) (c : CountedNames) → c.counts ≡ replicate most 0 → CountsBelow most names 0 c
none_counted most names c e = record {
  size = ap (λ (l : List ℕ). length l) e ∙ length-replicate most 0;
  counts = λ n l. let none = sum_none (λ dir. names dir n) in let zero_here = zeros n l in omega (arith, none, zero_here);
  namers = λ n l h. absurd (let zero_here = zeros n l in omega (arith, zero_here, h));
}
  where
    zeros : (n : ℕ) → n < most → count_of c n ≡ 0
    zeros n l = ap (λ (l : List ℕ). get_or l n 0) e ∙ get_or-replicate most n 0 0 l

-- ---- names of one directory

pub adds_nothing : (dir : ℕ) (lead : ℕ → ℕ) (c : CountedNames) → ((n : ℕ) → lead n ≡ 0) → AddsNames dir lead c c
adds_nothing dir lead c none = record {
  size = refl;
  counts = λ n l. let none_here = none n in omega (arith, none_here);
  namers = λ n l. sym (ap (λ (k : ℕ). if k == 0 then namer_of c n else dir) (none n));
}

-- the same counts, otherwise said
pub adds_as : (dir : ℕ) (f g : ℕ → ℕ) (a b : CountedNames) → ((n : ℕ) → f n ≡ g n) → AddsNames dir f a b → AddsNames dir g a b
adds_as dir f g a b same h = record {
  size = h.size;
  counts = λ n l. let is = h.counts n l in let e = same n in omega (arith, is, e);
  namers = λ n l. h.namers n l ∙ ap (λ (k : ℕ). if k == 0 then namer_of a n else dir) (same n);
}

-- some names, and then others
pub adds_both : (dir : ℕ) (f g lead : ℕ → ℕ) (a b c : CountedNames) → ((n : ℕ) → lead n ≡ f n + g n) → AddsNames dir f a b → AddsNames dir g b c → AddsNames dir lead a c
adds_both dir f g lead a b c all h k = record {
  size = k.size ∙ h.size;
  counts = λ n l. (
      let first = h.counts n l in let second = k.counts n (let size = h.size in omega (arith, l, size)) in let sum = all n in
      omega (arith, first, second, sum));
  namers = λ n l. last (f n) (g n) (lead n) (namer_of a n) (namer_of b n) (namer_of c n) (all n) (h.namers n l) (k.namers n (let size = h.size in omega (arith, l, size)));
}
  where
    last : (f g lead x y z : ℕ) → lead ≡ f + g → y ≡ (if f == 0 then x else dir) → z ≡ (if g == 0 then y else dir) → z ≡ (if lead == 0 then x else dir)
    last f g lead x y z sum first second = grind (arith, nat_tests)

-- a directory whose names were counted
module _ (most dir : ℕ) (of : ℕ → ℕ → ℕ) (lead : ℕ → ℕ) (old new : CountedNames) (is : CountsBelow most of dir old) (same : (n : ℕ) → of dir n ≡ lead n) (adds : AddsNames dir lead old new) where
  within : (n : ℕ) → n < most → n < length old.counts
  within n l = let s = is.size in omega (arith, l, s)

  count_is : (n : ℕ) → n < most → ends (count_of new n) ≡ ends (sum_below (suc dir) (λ d. of d n))
  count_is n l =
      let now = adds.counts n (within n l) in
      let was = is.counts n l in
      let more = sum_more dir (λ d. of d n) in
      let here = same n in
      omega (arith, now, was, more, here)

  namer_is : (n : ℕ) → n < most → 0 < count_of new n → (namer_of new n < suc dir) × (0 < of (namer_of new n) n)
  namer_is n l h = by (lead n == 0) refl
    where
      P : ℕ → Type 0
      P m = (m < suc dir) × (0 < of m n)

      before : lead n ≡ 0 → P (namer_of old n)
      before e =
          let now = adds.counts n (within n l) in
          let some : 0 < count_of old n = omega (arith, h, now, e) in
          let was = is.namers n l some in
          (let w = was.0 in omega (arith, w), was.1)

      by : (b : Bool) → (lead n == 0) ≡ b → P (namer_of new n)
      by true e = subst P (sym (adds.namers n (within n l) ∙ ap (λ (b : Bool). if b then namer_of old n else dir) e)) (before (eqb-true (lead n) 0 e))
      by false e =
          let here = same n in
          let some = eqb-false (lead n) 0 e in
          subst P (sym (adds.namers n (within n l) ∙ ap (λ (b : Bool). if b then namer_of old n else dir) e)) (omega arith, (let n0 : lead n ≡ 0 → ⊥ = some in omega (arith, here, n0)))

  pub counted : CountsBelow most of (suc dir) new
  counted = record { size = adds.size ∙ is.size; counts = count_is; namers = namer_is }

-- an inode without names
pub passed : (most dir : ℕ) (of : ℕ → ℕ → ℕ) (c : CountedNames) → CountsBelow most of dir c → ((n : ℕ) → of dir n ≡ 0) → CountsBelow most of (suc dir) c
passed most dir of c is none = record {
  size = is.size;
  counts = λ n l. let was = is.counts n l in let more = sum_more dir (λ d. of d n) in let here = none n in omega (arith, was, more, here);
  namers = λ n l h. let w = is.namers n l h in (let low = w.0 in omega (arith, low), w.1);
}
