use Rattle.std.proofs.Common.{◌≡◌, ℕ, ◌&&◌, length, get_or}
use Rattle.std.specs.Prelude.{nat_lt}
use Rattle.jfs_bits.specs.Bits.{is_taken}
use Rattle.jfs_iag.specs.Iag.{no_run}
use Rattle.jfs_iag.specs.Canonical.{is_there}
use Rattle.jfs_iag.proofs.canonical.present_extents.Given as goal

abbrev pub invariant-loop-e : goal.invariant-loop-e
invariant-loop-e l = record {
  size : length l.map ≡ 16;
  marked : (b : ℕ) → is_taken l.map b ≡ (nat_lt b l.e && is_there (get_or l.extents b no_run));
}
