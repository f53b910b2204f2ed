use Rattle.std.proofs.Common.{◌≡◌, ◌*◌, ◌/◌, ◌%◌, ◌<◌, ◌&&◌, ℕ, length, get_or}
use Rattle.std.specs.Prelude.{◌==◌}
use Rattle.jfs_bits.specs.Bits.{is_taken, count_below}
use Rattle.jfs_iag.specs.Iag.{no_run}
use Rattle.jfs_iag.specs.Canonical.{is_free_inode}
use Rattle.jfs_imap.proofs.counts.free_by_group.Given as goal

abbrev pub invariant-loop-k : goal.invariant-loop-k
invariant-loop-k l = record {
  size : length l.free ≡ 128;
  counts : (g : ℕ) → g < 128 → get_or l.free g 0 ≡ count_below (4096 * l.k) (λ i. is_free_inode (is_taken l.set) (λ e. get_or l.extents e no_run) i && i / 4096 % l.numag == g);
}
