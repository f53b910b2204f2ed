use Rattle.std.proofs.Common.{◌≡◌, ◌*◌}
use Rattle.std.specs.Prelude.{min}
use Rattle.jfs_bits.specs.Bits.{is_taken, count_below}
use Rattle.jfs_owners.proofs.words.count_taken.Given as goal

abbrev pub invariant-loop-w : goal.invariant-loop-w
invariant-loop-w l = l.count ≡ count_below (min (32 * l.w) l.n) (is_taken l.set)
