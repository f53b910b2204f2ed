-- What counts of all directories tell of an inode's names.
use Rattle.std.proofs.Common.{◌≡◌, ◌<◌, inl, inr, sym, ◌∙◌, subst, ℕ, ◌^◌, ◌==◌, ◌↔◌, IsTrue, arith}
use Rattle.std.proofs.lemmas.Bool.{cases_lt, eqb-true, eq-eqb}
use Rattle.jfs_object_check.specs.objects.specs.Owners.{sum_below}
use Rattle.jfs_object_check.specs.objects.proofs.Sums.{sum_one, sum_two, eq_or_not}
use Rattle.jfs_link_check.specs.Counts.{CountedNames, CountsBelow, count_of, namer_of, NamesPast}

module _ (most : ℕ) (names : ℕ → ℕ → ℕ) (c : CountedNames) (is : CountsBelow most names most c) (n : ℕ) (l : n < most) where
  pub links_told : (links : ℕ) → links < 2 ^ 32 → count_of c n ≡ links → sum_below most (λ dir. names dir n) ≡ links
  links_told links few e = let now = is.counts n l in omega (arith, now, few, e)

  pub told_links : (links : ℕ) → links < 2 ^ 32 → sum_below most (λ dir. names dir n) ≡ links → count_of c n ≡ links
  told_links links few e = let now = is.counts n l in omega (arith, now, few, e)

  pub once_by : (parent : ℕ) → count_of c n ≡ 1 → namer_of c n ≡ parent → (sum_below most (λ dir. names dir n) ≡ 1) × (names parent n ≡ 1)
  once_by parent e f =
      let all = links_told 1 (omega arith) e in
      let named = is.namers n l (omega (arith, e)) in
      let one = sum_one most (λ dir. names dir n) (namer_of c n) named.0 in
      let some = named.1 in
      (all, subst (λ (d : ℕ). names d n ≡ 1) f (omega (arith, all, one, some)))

  pub by_once : (parent : ℕ) → NamesPast most names n → sum_below most (λ dir. names dir n) ≡ 1 → names parent n ≡ 1 → (count_of c n ≡ 1) × (namer_of c n ≡ parent)
  by_once parent past all one =
      let counted = told_links 1 (omega arith) all in
      let named = is.namers n l (omega (arith, counted)) in (
        counted,
        elim (eq_or_not (namer_of c n) parent) [
          | inl e ↦ e
          | inr ne ↦ absurd (elim (cases_lt parent most) [
            | inl w ↦ (let two = sum_two most (λ dir. names dir n) parent (namer_of c n) w named.0 ne in let some = named.1 in omega (arith, two, some, one, all))
            | inr w ↦ (let none = past parent w in omega (arith, none, one))
          ])
        ],
      )

  pub once_is : (parent namer : ℕ) → NamesPast most names n → count_of c n ≡ 1 → namer ≡ namer_of c n → IsTrue (namer == parent) ↔ ((sum_below most (λ dir. names dir n) ≡ 1) × (names parent n ≡ 1))
  once_is parent namer past one at = (
    λ t. once_by parent one (sym at ∙ eqb-true namer parent t),
    λ h. eq-eqb namer parent (at ∙ (by_once parent past h.0 h.1).1),
  )
