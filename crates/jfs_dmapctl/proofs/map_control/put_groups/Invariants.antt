use Rattle.std.proofs.Common.{◌≡◌, ◌+◌, ◌*◌, ◌<◌, ◌≤◌, ◌⊎◌, ℕ, slice_index}
use Rattle.jfs_bits.specs.Field.{field_of, range_of}
use Rattle.jfs_dmapctl.proofs.map_control.put_groups.Given as goal

abbrev pub invariant-loop-k : goal.invariant-loop-k
invariant-loop-k l = record {
  counts : (j : ℕ) → j < l.k → field_of l.bytes (56 + 8 * j) 8 ≡ slice_index l.groups j;
  beside : (p n : ℕ) → (p + n ≤ 56) ⊎ (1080 ≤ p) → range_of l.bytes p n ≡ range_of l.fn.bytes p n;
}
