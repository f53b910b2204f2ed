use Rattle.std.proofs.Common.{◌≡◌, not, get_or}
use Rattle.jfs_bits.specs.Bits.{count_below}
use Rattle.jfs_iag.specs.Iag.{no_run}
use Rattle.jfs_iag.specs.Canonical.{is_there}
use Rattle.jfs_iag.proofs.canonical.free_places.Given as goal

abbrev pub invariant-loop-e : goal.invariant-loop-e
invariant-loop-e l = l.free ≡ count_below l.e (λ e. not (is_there (get_or l.extents e no_run)))
