use Rattle.std.proofs.Common.{◌≡◌, ◌≤◌, ◌-◌, ◌*◌, ◌%◌, ◌^◌, ℕ, arith}
use Rattle.std.proofs.lemmas.Nat.{pow_pos}
use Rattle.std.proofs.Math.Pow.{pow_mono}
use Rattle.jfs_bits.proofs.Words.{mask-bits}
use Rattle.jfs_owners.proofs.words.mask_of.Goals as goal

-- a shifted one fits
one_shifted : (k : ℕ) → k ≤ 32 → 1 * 2 ^ k % 18446744073709551616 ≡ 2 ^ k
one_shifted k h = let most : 2 ^ k ≤ 2 ^ 32 = pow_mono h in omega (arith, most)

pub overflow_sub-result-3 : goal.overflow_sub-result-3
overflow_sub-result-3 c =
    let most : 2 ^ (32 - c.args.to) ≤ 2 ^ (32 - c.args.from) = pow_mono {i = 32 - c.args.to} {j = 32 - c.args.from} (omega arith) in
    omega (arith, one_shifted (32 - c.args.from) (omega arith), one_shifted (32 - c.args.to) (omega arith), most)

pub overflow_cast-result-3 : goal.overflow_cast-result-3
overflow_cast-result-3 c =
    let most : 2 ^ (32 - c.args.from) ≤ 2 ^ 32 = pow_mono {i = 32 - c.args.from} {j = 32} (omega arith) in
    omega (arith, one_shifted (32 - c.args.from) (omega arith), one_shifted (32 - c.args.to) (omega arith), most, pow_pos (32 - c.args.to))

pub returns : goal.returns
returns c i h =
    let one = one_shifted (32 - c.args.from) (omega arith) in
    let other = one_shifted (32 - c.args.to) (omega arith) in
    rw (one, other) (mask-bits c.args.from c.args.to i c.requires.order c.requires.within h)
