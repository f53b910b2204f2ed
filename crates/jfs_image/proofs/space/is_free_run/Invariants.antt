use Rattle.std.proofs.Common.{◌≡◌, ℕ, true}
use Rattle.jfs_bits.specs.Bits.{all_below}
use Rattle.jfs_owners.specs.Counts.{Counts}
use Rattle.jfs_image.proofs.Spaces.{free_in}
use Rattle.jfs_image.proofs.space.is_free_run.Given as goal

abbrev pub invariant-loop-i : goal.invariant-loop-i
invariant-loop-i l = (count : ℕ → ℕ) → Counts l.owners count → all_below l.i (free_in count l.j) ≡ true
