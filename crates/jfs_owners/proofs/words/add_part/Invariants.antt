use Rattle.std.proofs.Common.{◌≡◌, ◌*◌, ℕ, ◌&&◌, ◌||◌}
use Rattle.std.specs.Prelude.{nat_le, nat_lt}
use Rattle.jfs_bits.specs.Bits.{is_taken}
use Rattle.jfs_owners.proofs.words.add_part.Given as goal

abbrev pub invariant-loop-w : goal.invariant-loop-w
invariant-loop-w l = record {
  owned : (b : ℕ) → is_taken l.owned b ≡ ((nat_le l.fn.first b && nat_lt b l.fn.end) && nat_lt b (32 * l.w) || is_taken l.initial.owned b);
  shared : (b : ℕ) → is_taken l.shared b ≡ ((nat_le l.fn.first b && nat_lt b l.fn.end) && nat_lt b (32 * l.w) && is_taken l.initial.owned b || is_taken l.initial.shared b);
}
