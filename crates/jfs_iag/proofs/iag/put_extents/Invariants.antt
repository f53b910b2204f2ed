use Rattle.std.proofs.Common.{◌≡◌, ◌+◌, ◌*◌, ◌<◌, ◌≤◌, ℕ, get_or}
use Rattle.jfs_bits.specs.Field.{range_of}
use Rattle.jfs_bits.specs.Descriptor.{pxd_of}
use Rattle.jfs_iag.specs.Iag.{no_run}
use Rattle.jfs_iag.proofs.iag.put_extents.Given as goal

abbrev pub invariant-loop-e : goal.invariant-loop-e
invariant-loop-e l = record {
  value : (j : ℕ) → j < l.e → pxd_of l.bytes (3072 + 8 * j) ≡ get_or l.extents j no_run;
  beside : (p n : ℕ) → p + n ≤ 3072 → range_of l.bytes p n ≡ range_of l.fn.bytes p n;
}
