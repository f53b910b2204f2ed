use Rattle.std.proofs.Common.{◌≡◌, ◌<◌, ◌≤◌, ◌+◌, ℕ, false}
use Rattle.jfs_bits.specs.Bits.{is_taken_in, has_free_run}
use Rattle.jfs_bits.proofs.bits.max_bud.Given as goal

abbrev pub invariant-loop-below : goal.invariant-loop-below
invariant-loop-below l = (k : ℕ) → k ≤ 5 → 5 < k + l.below → has_free_run (is_taken_in l.word) 5 k ≡ false
