use Rattle.jfs_command.specs.Held.{held_of}
use Rattle.jfs_command.specs.Meaning.{work_of}
use Rattle.jfs_command.specs.Redo.{is_clean}
use Rattle.jfs_command.specs.Order.{planned}
use Rattle.jfs_command.proofs.Looking.{faults_of}
use Rattle.jfs_command.proofs.RunLines.{was, from_clean}
use Rattle.jfs_command.proofs.run.run_by_state.Goals as goal

pub returns-then-eq-clause-ends : goal.returns-then-eq-clause-ends
returns-then-eq-clause-ends g c =
    let d = g.D.Disk in
    let ran = c.run_from.result in
    from_clean d.tells d.tells_crashes (planned c.args.plan.now c.args.printed) c.args.is_left c.args.now c.args.s.now (held_of d c.args.disk) (work_of ran.outcome (held_of d ran.disk)) (faults_of d c.args.disk ran.disk) ran.outcome.end
    (was (is_clean c.args.s.now.state.0) c.if-eq.ensures) c.run_from.ensures.ends
