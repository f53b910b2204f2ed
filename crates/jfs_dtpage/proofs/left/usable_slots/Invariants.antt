use Rattle.std.proofs.Common.{◌≡◌, ◌<◌, ℕ, false, length, get_or}
use Rattle.jfs_dtpage.specs.Form.{is_usable}
use Rattle.jfs_dtpage.proofs.left.usable_slots.Given as goal

abbrev pub invariant-loop-slot : goal.invariant-loop-slot
invariant-loop-slot l = (length l.is_left-items ≡ 128) × ((k : ℕ) → k < l.slot → get_or l.is_left-items k false ≡ is_usable l.form l.bytes k)
