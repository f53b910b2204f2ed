use Rattle.std.proofs.Common.{◌≡◌, ◌<◌, ◌+◌, ◌*◌, ℕ, get_or}
use Rattle.jfs_bits.specs.Field.{field_of}
use Rattle.jfs_dtpage.proofs.read.copy_units.Given as goal

abbrev pub invariant-loop-i : goal.invariant-loop-i
invariant-loop-i l = (k : ℕ) → k < l.i → get_or l.into k 0 ≡ field_of l.bytes (l.at + 2 * k) 2
