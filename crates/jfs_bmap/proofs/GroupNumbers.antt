-- The size of a group and the number of groups.
use Rattle.std.proofs.Common.{◌≡◌, ◌<◌, ◌≤◌, ◌+◌, ◌-◌, ◌*◌, ◌/◌, ◌%◌, ◌^◌, ℕ, suc, inl, inr, sym, arith}
use Rattle.std.specs.Prelude.{min}
use Rattle.std.proofs.lemmas.Bool.{cases_eq, cases_lt}
use Rattle.std.proofs.lemmas.Nat.{mul-le, pow_below}
use Rattle.std.proofs.Math.Pow.{pow_mono}
use Rattle.jfs_buddy.proofs.Halves.{twice}
use Rattle.jfs_bmap.specs.MapFile.{AreGroups}

-- a group's size is 2 to at least 13
pub l2-least : (blocks agsize : ℕ) (are : AreGroups blocks agsize) → 13 ≤ are.power.0
l2-least blocks agsize are = elim (cases_lt are.power.0 13) [ inl h ↦ absurd (omega (arith, are.least, are.power.1, pow_below are.power.0 13 h)) | inr h ↦ h ]

-- the greatest power of two that is at most a power of two
pub log-same : (a b n : ℕ) → 2 ^ a ≤ n → n < 2 * 2 ^ a → n ≡ 2 ^ b → a ≡ b
log-same a b n least most e =
    elim (cases_lt a b) [
      | inl h ↦ absurd (omega (arith, twice a, pow_mono {i = suc a} {j = b} (omega arith)))
      | inr h ↦ elim (cases_eq a b) [ inl same ↦ same | inr other ↦ absurd (omega (arith, twice b, pow_mono {i = suc b} {j = a} (omega arith))) ]
    ]

-- a quotient by its bounds
quotient-same : (n q x : ℕ) → n * q ≤ x → x < n * q + n → x / n ≡ q
quotient-same n q x low high =
    elim (cases_lt (x / n) q) [
      | inl h ↦ absurd (omega (arith, mul-le n (x / n + 1) n q (omega arith) (omega arith)))
      | inr h ↦ elim (cases_eq (x / n) q) [ inl same ↦ same | inr other ↦ absurd (omega (arith, mul-le n (q + 1) n (x / n) (omega arith) (omega arith))) ]
    ]

-- a quotient rounded up
pub div_ceil-same : (x n : ℕ) → 0 < n → x / n + min 1 (x % n) ≡ (x + n - 1) / n
div_ceil-same x n h =
    elim (cases_eq (x % n) 0) [
      | inl e ↦ (let up : x / n + min 1 (x % n) ≡ x / n = omega arith in rw up (sym (quotient-same n (x / n) (x + n - 1) (omega arith) (omega arith))))
      | inr e ↦ (let up : x / n + min 1 (x % n) ≡ x / n + 1 = omega arith in rw up (sym (quotient-same n (x / n + 1) (x + n - 1) (omega arith) (omega arith))))
    ]
