use Rattle.std.proofs.Common.{◌≡◌, ◌+◌, ◌*◌, get_or}
use Rattle.jfs_bits.specs.Bits.{is_taken, count_below}
use Rattle.jfs_iag.specs.Iag.{no_run}
use Rattle.jfs_iag.specs.Canonical.{is_free_inode}
use Rattle.jfs_imap.proofs.counts.free_in.Given as goal

abbrev pub invariant-loop-i : goal.invariant-loop-i
invariant-loop-i l = l.free ≡ count_below l.i (λ i. is_free_inode (is_taken l.set) (λ e. get_or l.extents e no_run) (4096 * l.k + i))
