use Rattle.std.proofs.Common.{◌≡◌, ◌*◌, ◌-◌, ◌++◌}
use Rattle.jfs_logfmt.specs.Text.{runs_of}
use Rattle.jfs_logfmt.proofs.run.read_runs.Given as goal

abbrev pub invariant-loop-i : goal.invariant-loop-i
invariant-loop-i l = l.list ++ runs_of l.body (8 * l.i) (l.count - l.i) ≡ runs_of l.body 0 l.count
