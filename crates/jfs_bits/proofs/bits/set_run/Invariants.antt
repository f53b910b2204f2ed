use Rattle.std.proofs.Common.{◌≡◌, ◌*◌, ℕ, ◌&&◌, ◌||◌}
use Rattle.std.specs.Prelude.{nat_lt}
use Rattle.jfs_bits.specs.Bits.{is_taken, is_in_run}
use Rattle.jfs_bits.proofs.bits.set_run.Given as goal

abbrev pub invariant-loop-w : goal.invariant-loop-w
invariant-loop-w l = (b : ℕ) → is_taken l.map b ≡ (is_in_run l.fn.first l.fn.n b && nat_lt b (32 * l.w) || is_taken l.initial.map b)
