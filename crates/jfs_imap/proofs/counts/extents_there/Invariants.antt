use Rattle.std.proofs.Common.{◌≡◌, ◌*◌, ◌≤◌, get_or}
use Rattle.jfs_bits.specs.Bits.{count_below}
use Rattle.jfs_iag.specs.Iag.{no_run}
use Rattle.jfs_iag.specs.Canonical.{is_there}
use Rattle.jfs_imap.proofs.counts.extents_there.Given as goal

abbrev pub invariant-loop-k : goal.invariant-loop-k
invariant-loop-k l = record {
  value : l.there ≡ count_below (128 * l.k) ((λ e. is_there (get_or l.extents e no_run)));
  most : l.there ≤ 128 * l.k;
}
