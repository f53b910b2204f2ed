use Rattle.std.proofs.Common.{◌≤◌, ◌<◌, ℕ, [], length}
use Rattle.std.specs.Prelude.{get_or}
use Rattle.jfs_call_parts_rows.proofs.volume.is_short.Given as goal

abbrev pub invariant-loop-i : goal.invariant-loop-i
invariant-loop-i l = (k : ℕ) → k < l.i → length (get_or l.path k []) ≤ 255
