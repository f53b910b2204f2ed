use Rattle.std.proofs.Common.{◌≡◌, ◌+◌, ◌*◌, ◌<◌, ◌≤◌, ℕ, true}
use Rattle.jfs_bits.specs.Bits.{is_taken}
use Rattle.jfs_owners.proofs.passed.is_shared_group.Given as goal

abbrev pub invariant-loop-w : goal.invariant-loop-w
invariant-loop-w l = (b : ℕ) → 1024 * l.group ≤ b → b < 1024 * l.group + 32 * l.w → is_taken l.shared b ≡ true
