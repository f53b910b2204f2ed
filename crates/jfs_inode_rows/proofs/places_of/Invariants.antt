use Rattle.std.proofs.Common.{◌≡◌, ◌<◌, ℕ, length, get_or}
use Rattle.jfs_bits.specs.Descriptor.{FitsPxd}
use Rattle.jfs_iag.specs.Iag.{no_run}
use Rattle.jfs_inode_rows.proofs.places_of.Given as goal

abbrev pub invariant-loop-e : goal.invariant-loop-e
invariant-loop-e l = record {
  size : length l.list ≡ l.e;
  fits : (j : ℕ) → j < l.e → FitsPxd (get_or l.list j no_run);
}
