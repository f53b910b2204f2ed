use Rattle.std.proofs.Common.{◌≡◌, ◌<◌, ℕ, false}
use Rattle.jfs_bits.specs.Bits.{is_free_run, is_taken_in}
use Rattle.jfs_bits.proofs.bits.lowest_run.Given as goal

abbrev pub invariant-loop-j : goal.invariant-loop-j
invariant-loop-j l = (i : ℕ) → i < l.j → is_free_run (is_taken_in l.word) l.l2 i ≡ false
