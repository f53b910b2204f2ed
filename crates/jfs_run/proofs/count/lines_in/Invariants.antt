use Rattle.std.proofs.Common.{◌≡◌, ◌+◌, drop}
use Rattle.jfs_run.specs.Tasks.{plan_of, lines_in}
use Rattle.jfs_run.proofs.count.lines_in.Given as goal

-- those so far and those of the rest are all
abbrev pub invariant-loop-script : goal.invariant-loop-script
invariant-loop-script l = l.count + lines_in (plan_of (drop l.script-index l.scripts)) ≡ lines_in (plan_of l.scripts)
