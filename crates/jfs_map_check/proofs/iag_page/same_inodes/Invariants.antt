use Rattle.std.proofs.Common.{◌≡◌, ◌*◌, ◌/◌, ◌<◌, true, ℕ, get_or}
use Rattle.jfs_bits.specs.Bits.{is_taken}
use Rattle.jfs_iag.specs.Iag.{no_run}
use Rattle.jfs_iag.specs.Canonical.{is_there}
use Rattle.jfs_map_check.proofs.iag_page.same_inodes.Given as goal

abbrev pub invariant-loop-e : goal.invariant-loop-e
invariant-loop-e l = (j : ℕ) → j < 32 * l.e → is_there (get_or l.extents (j / 32) no_run) ≡ true → is_taken l.one j ≡ is_taken l.other j
