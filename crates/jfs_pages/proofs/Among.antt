-- Pages in a list, by their places.
use Rattle.std.proofs.Common.{◌≡◌, ◌<◌, ℕ, zero, suc, true, List, [], ◌∷◌, length, get_or, inl, inr, subst, arith}
use Rattle.std.proofs.lemmas.Bool.{cases_eq}
use mathlib.Core.Bool.{false≢true}
use Rattle.std.proofs.lemmas.Bool.Decides.{nat_tests}
use Rattle.jfs_pages.specs.Dirty.{is_among}

pub among_at : (pages : List ℕ) (k : ℕ) → k < length pages → is_among (get_or pages k 0) pages ≡ true
among_at [] k h = absurd (omega arith)
among_at (page ∷ pages) zero h = grind (arith, nat_tests)
among_at (page ∷ pages) (suc k) h = grind (arith, nat_tests, among_at pages k (omega arith))

-- what holds at each place holds of each page
pub all_among : (P : ℕ → Type 0) (pages : List ℕ) → ((k : ℕ) → k < length pages → P (get_or pages k 0)) → (n : ℕ) → is_among n pages ≡ true → P n
all_among P [] all n there = absurd (false≢true there)
all_among P (page ∷ pages) all n there = elim (cases_eq page n) [
  | inl e ↦ subst P e (all 0 (omega arith))
  | inr apart ↦ all_among P pages (λ k h. all (suc k) (omega arith)) n (grind (arith, nat_tests, apart, there))
]
