use Rattle.std.proofs.Common.{◌≡◌, ◌*◌, not}
use Rattle.jfs_bits.specs.Bits.{is_taken, count_below}
use Rattle.jfs_dmap.proofs.page.count_free.Given as goal

abbrev pub invariant-loop-word : goal.invariant-loop-word
invariant-loop-word l = l.free ≡ count_below (32 * l.word) (λ b. not (is_taken l.map b))
