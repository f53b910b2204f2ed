use Rattle.std.proofs.Common.{◌≡◌, ◌*◌, ◌-◌}
use Rattle.std.specs.List.{list_all}
use Rattle.jfs_logfmt.specs.Text.{runs_of}
use Rattle.jfs_logfmt.specs.Rules.{is_inside}
use Rattle.jfs_logfmt.proofs.run.all_inside.Given as goal

abbrev pub invariant-loop-i : goal.invariant-loop-i
invariant-loop-i l = list_all (is_inside l.blocks) (runs_of l.body (8 * l.i) (l.count - l.i)) ≡ list_all (is_inside l.blocks) (runs_of l.body 0 l.count)
