use Rattle.std.proofs.Common.{◌≡◌, ◌<◌, ◌==◌, ℕ, not, false}
use Rattle.jfs_bits.specs.Bits.{is_free_run}
use Rattle.jfs_owners.specs.Counts.{Counts}
use Rattle.jfs_image.proofs.space.has_run.Given as goal

abbrev pub invariant-loop-j : goal.invariant-loop-j
invariant-loop-j l = (count : ℕ → ℕ) → Counts l.owners count → (k : ℕ) → k < l.j → is_free_run (λ b. not (count b == 0)) 2 k ≡ false
