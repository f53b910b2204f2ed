use Rattle.jfs_turns_rows.specs.Same.{IsSamePass}
use Rattle.jfs_turns_rows.proofs.client.work.Given as goal

abbrev pub invariant-loop : goal.invariant-loop
invariant-loop g l = IsSamePass l.initial.pass l.pass

abbrev pub invariant-loop-step : goal.invariant-loop-step
invariant-loop-step g l = IsSamePass l.initial.pass l.pass
