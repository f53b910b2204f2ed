use Rattle.std.proofs.Common.{◌≡◌, ◌*◌, ℕ}
use Rattle.std.specs.Prelude.{nat_lt, ◌&&◌, if◌then◌else◌}
use Rattle.jfs_bmap.specs.Freed.{covers, entry_at}
use Rattle.jfs_bmap.proofs.entries.fill_entries.Given as goal

abbrev pub invariant-loop-k : goal.invariant-loop-k
invariant-loop-k l = (b : ℕ) → entry_at l.pieces b ≡ (if covers l.run b && nat_lt b (8192 * l.k) then l.run.entry else entry_at l.initial.pieces b)
