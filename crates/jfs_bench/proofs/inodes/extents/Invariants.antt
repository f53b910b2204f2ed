use Rattle.std.proofs.Common.{◌≡◌, ℕ, length, get_or}
use Rattle.jfs_bits.specs.Descriptor.{FitsPxd}
use Rattle.jfs_iag.specs.Iag.{no_run}
use Rattle.jfs_bench.proofs.inodes.extents.Given as goal

abbrev pub invariant-loop-place : goal.invariant-loop-place
invariant-loop-place l = (length l.list ≡ l._place) × ((e : ℕ) → FitsPxd (get_or l.list e no_run))
