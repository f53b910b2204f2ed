use Rattle.std.proofs.Common.{◌≡◌, ◌<◌, ◌+◌, ◌*◌, ℕ}
use Rattle.jfs_bits.specs.Field.{field_of}
use Rattle.jfs_dtpage.proofs.order.by_first_units.Given as goal

abbrev pub invariant-loop-i : goal.invariant-loop-i
invariant-loop-i l = (k : ℕ) → k < l.i → field_of l.bytes (l.at + 2 * k) 2 ≡ field_of l.bytes (l.beside + 2 * k) 2
