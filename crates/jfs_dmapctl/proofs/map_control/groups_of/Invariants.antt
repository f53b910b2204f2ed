use Rattle.std.proofs.Common.{◌≡◌, ◌+◌, ◌*◌, ◌<◌, ℕ, length, slice_index}
use Rattle.jfs_bits.specs.Field.{field_of}
use Rattle.jfs_dmapctl.proofs.map_control.groups_of.Given as goal

abbrev pub invariant-loop-k : goal.invariant-loop-k
invariant-loop-k l = record {
  size : length l.groups ≡ 128;
  counts : (j : ℕ) → j < l.k → slice_index l.groups j ≡ field_of l.bytes (56 + 8 * j) 8;
}
