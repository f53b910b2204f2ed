-- Two inodes with one slot are one.
use Rattle.std.proofs.Common.{◌≡◌, ◌≤◌, ◌<◌, refl, sym, ap, ◌∙◌, ℕ, zero, suc, ◌+◌, ◌/◌, ◌%◌, ◌&&◌, Bool, true, false, nat_le, nat_lt, if◌then◌else◌, List, [], ◌∷◌, get_or, Option, Some, None, arith}
use Rattle.std.proofs.lemmas.Bool.Decides.{nat_tests}
use Rattle.jfs_objects.specs.Volume.{page_in, home}
use Rattle.jfs_objects.specs.Owners.{extent_has, extents_have}

pub has_it : (e d b : ℕ) → d < 4 → e + d ≡ b → 1 ≤ extent_has (Some e) b
has_it e d b l h = within (nat_le e b && nat_lt b (e + 4)) (grind (arith, nat_tests))
  where
    within : (x : Bool) → x ≡ true → 1 ≤ (if x then 1 else 0)
    within true h = omega arith
    within false h = absurd (cc (h))

some_is : {e f : ℕ} → Some e ≡ Some f → e ≡ f
some_is h = cc (h)

extent_at : (es : List (Option ℕ)) (i e d b : ℕ) → get_or es i None ≡ Some e → d < 4 → e + d ≡ b → 1 ≤ extents_have es b
extent_at [] i e d b h k s = absurd (cc (h))
extent_at (x ∷ es) zero e d b h k s = let t = has_it e d b k s in let w = ap (λ y. extent_has y b) h in omega (arith, t, w)
extent_at (x ∷ es) (suc i) e d b h k s = let t = extent_at es i e d b h k s in omega (arith, t)

-- two extents with one block are one
one_extent : (es : List (Option ℕ)) → ((b : ℕ) → extents_have es b ≤ 1) → (i j e f d g b : ℕ) → get_or es i None ≡ Some e → get_or es j None ≡ Some f → d < 4 → g < 4 → e + d ≡ b → f + g ≡ b → i ≡ j
one_extent [] once i j e f d g b h k s t p q = absurd (cc (h))
one_extent (x ∷ es) once zero zero e f d g b h k s t p q = refl
one_extent (x ∷ es) once zero (suc j) e f d g b h k s t p q = absurd (let u = has_it e d b s p in let w = ap (λ y. extent_has y b) h in let r = extent_at es j f g b k t q in let o = once b in omega (arith, u, w, r, o))
one_extent (x ∷ es) once (suc i) zero e f d g b h k s t p q = absurd (let u = has_it f g b t q in let w = ap (λ y. extent_has y b) k in let r = extent_at es i e d b h s p in let o = once b in omega (arith, u, w, r, o))
one_extent (x ∷ es) once (suc i) (suc j) e f d g b h k s t p q = ap suc (one_extent es (λ b. let o = once b in omega (arith, o)) i j e f d g b h k s t p q)

-- an inode's page lies in its extent
pub record InExtent (es : List (Option ℕ)) (n p : ℕ) : Type 0 where
  pub first : ℕ
  pub is : get_or es (n / 32) None ≡ Some first
  pub page : first + n % 32 / 8 ≡ p

pub in_extent : (es : List (Option ℕ)) (n p : ℕ) → home es n ≡ Some p → InExtent es n p
in_extent es n p h = by_case (get_or es (n / 32) None) refl h
  where
    by_case : (x : Option ℕ) → get_or es (n / 32) None ≡ x → page_in x n ≡ Some p → InExtent es n p
    by_case None e i = absurd (cc (i))
    by_case (Some first) e i = record { first = first; is = e; page = some_is i }

pub home_counts : (es : List (Option ℕ)) (n p : ℕ) → home es n ≡ Some p → 1 ≤ extents_have es p
home_counts es n p h = let i = in_extent es n p h in extent_at es (n / 32) i.first (n % 32 / 8) p i.is (omega arith) i.page

pub one_inode : (es : List (Option ℕ)) → ((b : ℕ) → extents_have es b ≤ 1) → (n m p : ℕ) → home es n ≡ Some p → home es m ≡ Some p → n % 8 ≡ m % 8 → n ≡ m
one_inode es once n m p h k s =
    let i = in_extent es n p h in
    let j = in_extent es m p k in
    let same = one_extent es once (n / 32) (m / 32) i.first j.first (n % 32 / 8) (m % 32 / 8) p i.is j.is (omega arith) (omega arith) i.page j.page in
    let one = some_is (sym i.is ∙ ap (λ l. get_or es l None) same ∙ j.is) in
    let a = i.page in let b = j.page in
    omega (arith, same, one, a, b, s)
