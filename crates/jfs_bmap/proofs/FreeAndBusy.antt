-- No block is both free and busy.
use Rattle.std.proofs.Common.{◌≤◌, ◌+◌, ℕ, zero, suc, arith}
use Rattle.std.specs.Prelude.{if◌then◌else◌}
use Rattle.jfs_bits.specs.Bits.{count_below}
use Rattle.jfs_bmap.specs.States.{BlockState, Free, Owned, Reserved, Busy, is_free_state, is_busy_state}

one-block : (s : BlockState) → (if is_free_state s then 1 else 0) + (if is_busy_state s then 1 else 0) ≤ 1
one-block Free = omega arith
one-block Owned = omega arith
one-block Reserved = omega arith
one-block (Busy entry) = omega arith

pub counts-most : (n : ℕ) (state : ℕ → BlockState) → count_below n (λ b. is_free_state (state b)) + count_below n (λ b. is_busy_state (state b)) ≤ n
unfolding count_below
counts-most zero state = omega arith
counts-most (suc n) state = omega (arith, counts-most n state, one-block (state n))
