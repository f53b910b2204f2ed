use Rattle.std.proofs.Common.{◌≡◌, ◌<◌, ◌≤◌, ◌+◌, ◌-◌, ◌*◌, ◌%◌, ◌^◌, ◌∙◌, ℕ, ◌&&◌, ap, arith}
use Rattle.std.specs.Prelude.{min, max, nat_le, nat_lt}
use Rattle.std.proofs.lemmas.Bool.Decides.{nat_tests}
use Rattle.std.proofs.lemmas.Nat.{pow_pos}
use Rattle.std.proofs.Math.Pow.{pow_mono}
use Rattle.jfs_bits.proofs.Words.{mask-bits}
use Rattle.jfs_bits.proofs.bits.mask_of.Goals as goal

-- a shifted one fits
one-shifted : (k : ℕ) → k ≤ 32 → 1 * 2 ^ k % 18446744073709551616 ≡ 2 ^ k
one-shifted k h = let most : 2 ^ k ≤ 2 ^ 32 = pow_mono h in omega (arith, most)

from_of : goal.After-min-2 → ℕ
from_of c = c.min.result - 32 * c.args.w

to_of : goal.After-min-2 → ℕ
to_of c = c.min-2.result - 32 * c.args.w

-- both places lie in the word, in their order
order : (c : goal.After-min-2) → (from_of c ≤ to_of c) × (to_of c ≤ 32)
unfolding from_of to_of
order c = (omega (arith, c.max.ensures, c.min.ensures, c.max-2.ensures, c.min-2.ensures, c.requires.order), omega (arith, c.min-2.ensures))

pub overflow_sub-result-3 : goal.overflow_sub-result-3
unfolding from_of to_of
overflow_sub-result-3 c =
    let most : 2 ^ (32 - to_of c) ≤ 2 ^ (32 - from_of c) = pow_mono (omega (arith, (order c).0)) in
    omega (arith, one-shifted (32 - from_of c) (omega arith), one-shifted (32 - to_of c) (omega arith), most)

pub overflow_cast-result : goal.overflow_cast-result
unfolding from_of to_of
overflow_cast-result c =
    let most : 2 ^ (32 - from_of c) ≤ 2 ^ 32 = pow_mono {i = 32 - from_of c} {j = 32} (omega arith) in
    omega (arith, one-shifted (32 - from_of c) (omega arith), one-shifted (32 - to_of c) (omega arith), most, pow_pos (32 - to_of c))

-- the tests of a place in the word are those of the block
tests-same : (w first end i m n : ℕ) → first ≤ end → i < 32 → m ≡ min (max first (32 * w)) (32 * w + 32) → n ≡ min (max end (32 * w)) (32 * w + 32) → (nat_le (m - 32 * w) i && nat_lt i (n - 32 * w)) ≡ (nat_le first (32 * w + i) && nat_lt (32 * w + i) end)
tests-same w first end i m n o h e f = grind (arith, nat_tests)

pub returns : goal.returns
unfolding from_of to_of
returns c i h =
    let one = one-shifted (32 - from_of c) (omega arith) in
    let other = one-shifted (32 - to_of c) (omega arith) in
    rw (one, other) (mask-bits (from_of c) (to_of c) i (order c).0 (order c).1 h ∙ tests-same c.args.w c.args.first c.args.end i c.min.result c.min-2.result c.requires.order h (c.min.ensures ∙ ap (λ (z : ℕ). min z (32 * c.args.w + 32)) c.max.ensures) (c.min-2.ensures ∙ ap (λ (z : ℕ). min z (32 * c.args.w + 32)) c.max-2.ensures))
