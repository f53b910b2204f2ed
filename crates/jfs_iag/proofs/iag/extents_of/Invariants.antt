use Rattle.std.proofs.Common.{◌≡◌, ◌+◌, ◌*◌, ◌<◌, ℕ, length, get_or}
use Rattle.jfs_bits.specs.Descriptor.{pxd_of, FitsPxd}
use Rattle.jfs_iag.specs.Iag.{no_run}
use Rattle.jfs_iag.proofs.iag.extents_of.Given as goal

abbrev pub invariant-loop-e : goal.invariant-loop-e
invariant-loop-e l = record {
  size : length l.extents ≡ 128;
  value : (j : ℕ) → j < l.e → get_or l.extents j no_run ≡ pxd_of l.bytes (3072 + 8 * j);
  fits : (j : ℕ) → j < l.e → FitsPxd (get_or l.extents j no_run);
}
