use Rattle.std.proofs.Common.{◌≡◌, length}
use Rattle.jfs_core_rows.proofs.runs.zeros.Given as goal

abbrev pub invariant-loop : goal.invariant-loop
invariant-loop l = length l.pages ≡ l.counter
