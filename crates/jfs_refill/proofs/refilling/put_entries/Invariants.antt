use Rattle.std.proofs.Common.{◌≡◌, ◌≤◌, ◌+◌, ◌*◌, ℕ, length, take}
use Rattle.jfs_bits.specs.Field.{range_of}
use Rattle.jfs_xtpage.specs.Page.{entries_from}
use Rattle.jfs_refill.proofs.refilling.put_entries.Given as goal

abbrev pub invariant-loop-x : goal.invariant-loop-x
invariant-loop-x l = (entries_from l.bytes 0 l.x-index ≡ take l.x-index l.list) × (range_of l.bytes 0 32 ≡ range_of l.fn.bytes 0 32) × (length l.bytes ≡ length l.fn.bytes) × (l.at ≡ 32 + 16 * l.x-index)
    × ((p n : ℕ) → 32 + 16 * length l.list ≤ p → range_of l.bytes p n ≡ range_of l.fn.bytes p n)
