use Rattle.std.proofs.Common.{◌≡◌, ◌+◌, ◌<◌, ◌≤◌, ℕ, get_or}
use Rattle.jfs_bits.specs.Field.{range_of}
use Rattle.jfs_iag.specs.Control.{group_at, no_group}
use Rattle.jfs_iag.proofs.control.put_groups.Given as goal

abbrev pub invariant-loop-g : goal.invariant-loop-g
invariant-loop-g l = record {
  value : (j : ℕ) → j < l.g → group_at l.bytes j ≡ get_or l.groups j no_group;
  beside : (p n : ℕ) → p + n ≤ 2048 → range_of l.bytes p n ≡ range_of l.fn.bytes p n;
}
