use Rattle.std.proofs.Common.{◌≡◌, ◌<◌, ◌≤◌, ◌%◌, ℕ, suc, true, length}
use Rattle.jfs_logpages.specs.Marks.{StandsIn, IsRunIn}
use Rattle.jfs_logpages.proofs.reading.last_run.Given as goal

abbrev pub invariant-loop-p : goal.invariant-loop-p
invariant-loop-p l = record {
  sound : l.found ≡ true → IsRunIn l.marks l.half l.best;
  complete : (q : ℕ) → q % length l.marks < l.p → IsRunIn l.marks l.half q → (StandsIn l.marks (suc q) → ⊥) → (l.found ≡ true) × (q ≤ l.best);
}
