use Rattle.std.proofs.Common.{◌≡◌, ◌*◌, ◌<◌, ℕ}
use Rattle.jfs_bits.specs.Bits.{is_taken}
use Rattle.jfs_map_check.proofs.iag_page.same_bits.Given as goal

abbrev pub invariant-loop-w : goal.invariant-loop-w
invariant-loop-w l = (j : ℕ) → j < 32 * l.w → is_taken l.one j ≡ is_taken l.other j
