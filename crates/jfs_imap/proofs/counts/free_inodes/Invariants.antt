use Rattle.std.proofs.Common.{◌≡◌, ◌*◌, ◌≤◌, get_or}
use Rattle.jfs_bits.specs.Bits.{is_taken, count_below}
use Rattle.jfs_iag.specs.Iag.{no_run}
use Rattle.jfs_iag.specs.Canonical.{is_free_inode}
use Rattle.jfs_imap.proofs.counts.free_inodes.Given as goal

abbrev pub invariant-loop-k : goal.invariant-loop-k
invariant-loop-k l = record {
  value : l.free ≡ count_below (4096 * l.k) (is_free_inode (is_taken l.set) (λ e. get_or l.extents e no_run));
  most : l.free ≤ 4096 * l.k;
}
