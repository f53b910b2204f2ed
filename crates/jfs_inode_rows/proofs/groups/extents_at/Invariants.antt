use Rattle.std.proofs.Common.{◌≡◌, ◌<◌, ℕ, length, get_or}
use Rattle.jfs_bits.specs.Descriptor.{FitsPxd}
use Rattle.jfs_iag.specs.Iag.{no_run}
use Rattle.jfs_inode_rows.proofs.groups.extents_at.Given as goal

abbrev pub invariant-loop-place : goal.invariant-loop-place
invariant-loop-place l = record {
  size : length l.extents ≡ 128;
  fits : (e : ℕ) → e < 128 → FitsPxd (get_or l.extents e no_run);
}
