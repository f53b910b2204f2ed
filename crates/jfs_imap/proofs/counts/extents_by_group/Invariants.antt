use Rattle.std.proofs.Common.{◌≡◌, ◌*◌, ◌/◌, ◌%◌, ◌<◌, ◌&&◌, ℕ, length, get_or}
use Rattle.std.specs.Prelude.{◌==◌}
use Rattle.jfs_bits.specs.Bits.{count_below}
use Rattle.jfs_iag.specs.Iag.{no_run}
use Rattle.jfs_iag.specs.Canonical.{is_there}
use Rattle.jfs_imap.proofs.counts.extents_by_group.Given as goal

abbrev pub invariant-loop-k : goal.invariant-loop-k
invariant-loop-k l = record {
  size : length l.there ≡ 128;
  counts : (g : ℕ) → g < 128 → get_or l.there g 0 ≡ count_below (128 * l.k) (λ e. is_there (get_or l.extents e no_run) && e / 128 % l.numag == g);
}
