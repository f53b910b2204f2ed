-- A number with one bit set is two to some power.
use Rattle.std.proofs.Common.{◌≡◌, ◌/◌, ◌%◌, ℕ, zero, suc, count_ones, refl, arith}
use Rattle.std.specs.Int.{IsPowerOfTwo}
use Rattle.std.specs.Int.Count.{ones_step}
use Rattle.std.proofs.Math.Arith.{bin_ind}
use Rattle.std.proofs.Math.Nat.{pow-suc}
use Rattle.std.proofs.lemmas.Nat.{ones_le_self, zero_from_ones}

-- twice a power of two is one
doubled : (n : ℕ) → n % 2 ≡ 0 → IsPowerOfTwo (n / 2) → IsPowerOfTwo n
doubled n even half = (suc half.0, omega (arith, half.1, pow-suc 2 half.0))

-- the lowest bit: an even number has the ones of its half, and an odd one has one more, so its half is 0
by_lowest : (n bit : ℕ) → n % 2 ≡ bit → (count_ones (n / 2) ≡ 1 → IsPowerOfTwo (n / 2)) → count_ones n ≡ 1 → IsPowerOfTwo n
by_lowest n zero is half one = doubled n is (half (omega (arith, ones_step n)))
by_lowest n (suc zero) is half one = (0, omega (arith, zero_from_ones (n / 2) (omega (arith, ones_step n))))
by_lowest n (suc (suc bit)) is half one = absurd (omega arith)

-- a number with one bit set is a power of two
pub power_from_one : (n : ℕ) → count_ones n ≡ 1 → IsPowerOfTwo n
power_from_one = bin_ind (λ (n : ℕ). count_ones n ≡ 1 → IsPowerOfTwo n) (λ one. absurd (omega (arith, ones_le_self 0))) (λ n half. by_lowest n (n % 2) refl half)
