-- The bytes of a list that a function gives, one by one.
use Rattle.std.proofs.Common.{◌≡◌, ◌<◌, ◌≤◌, inl, inr, refl, ap, ℕ, zero, suc, ◌+◌, true, false, nat_lt, if◌then◌else◌, get_or, arith}
use Rattle.std.proofs.lemmas.Bool.{cases_lt}
use Rattle.std.proofs.lemmas.Bool.Decides.{nat_tests}
use Rattle.jfs_plain.specs.Step.{bytes_from}

byte_below : (f : ℕ → ℕ) (n from i k : ℕ) → i < n → k ≡ from + i → get_or (bytes_from f from n) i 0 ≡ f k
unfolding bytes_from
byte_below f zero from i k l e = absurd (omega (arith, l))
byte_below f (suc n) from zero k l e = ap f (omega (arith, e))
byte_below f (suc n) from (suc i) k l e = byte_below f n (suc from) i k (omega (arith, l)) (omega (arith, e))

byte_past : (f : ℕ → ℕ) (n from i : ℕ) → n ≤ i → get_or (bytes_from f from n) i 0 ≡ 0
unfolding bytes_from
byte_past f zero from i l = refl
byte_past f (suc n) from zero l = absurd (omega (arith, l))
byte_past f (suc n) from (suc i) l = byte_past f n (suc from) i (omega (arith, l))

pub byte_at : (f : ℕ → ℕ) (n i : ℕ) → (if nat_lt i n then f i else 0) ≡ get_or (bytes_from f 0 n) i 0
byte_at f n i = elim (cases_lt i n) [
  | inl l ↦ (let t : nat_lt i n ≡ true = grind (arith, nat_tests) in rw (t, byte_below f n 0 i i l (omega arith)) refl)
  | inr l ↦ (let t : nat_lt i n ≡ false = grind (arith, nat_tests) in rw (t, byte_past f n 0 i l) refl)
]
