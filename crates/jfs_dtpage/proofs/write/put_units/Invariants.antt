use Rattle.std.proofs.Common.{◌≡◌, ◌<◌, ◌+◌, ◌*◌, ℕ, length, get_or}
use Rattle.jfs_bits.specs.Field.{field_of}
use Rattle.jfs_dtpage.specs.Slots.{Kept}
use Rattle.jfs_dtpage.proofs.write.put_units.Given as goal

abbrev pub invariant-loop-i : goal.invariant-loop-i
invariant-loop-i l = ((k : ℕ) → k < l.i → field_of l.bytes (l.at + 2 * k) 2 ≡ get_or l.units k 0) × Kept l.at (2 * length l.units) l.initial.bytes l.bytes
