use Rattle.std.proofs.Common.{◌<◌, ◌≤◌, ◌+◌, ℕ}
use Rattle.jfs_logpages.specs.Marks.{StandsIn}
use Rattle.jfs_logpages.proofs.reading.is_run.Given as goal

abbrev pub invariant-loop-j : goal.invariant-loop-j
invariant-loop-j l = (k : ℕ) → k ≤ l.number → l.number < k + l.j → StandsIn l.marks k
