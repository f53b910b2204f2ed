use Rattle.std.proofs.Common.{ℕ, sym, subst, ◌∙◌}
use Rattle.jfs_super.specs.Rules.{IsAccepted}
use Rattle.jfs_command.specs.declared.outcome.End.{End}
use Rattle.jfs_command.specs.Held.{Work, held_of}
use Rattle.jfs_command.specs.Meaning.{work_of}
use Rattle.jfs_command.specs.Redo.{end_of}
use Rattle.jfs_command.specs.Order.{planned}
use Rattle.jfs_command.specs.Run.{cleaned, LinesEnd}
use Rattle.jfs_command.proofs.Looking.{faults_of}
use Rattle.jfs_command.proofs.RunLines.{accepted_clean, redone_by, from_redone, stopped, same_empty}
use Rattle.jfs_command.proofs.run.run_redone.Goals as goal

pub run_from-requires-clause-accepted : goal.run_from-requires-clause-accepted
run_from-requires-clause-accepted g c κs within =
    subst (λ (n : ℕ). IsAccepted (cleaned c.args.s.now) n) (sym c.in-Ok.ensures.pages) (accepted_clean c.args.s.now (g.D.Disk.page_count c.args.disk) c.requires.accepted)

pub returns-in-Ok-clause-ends : goal.returns-in-Ok-clause-ends
returns-in-Ok-clause-ends g c =
    let d = g.D.Disk in
    let is = c.in-Ok.ensures in
    let ran = c.run_from.result in
    from_redone d.tells d.tells_crashes (planned c.args.plan.now c.args.printed) c.args.is_left c.args.now c.args.s.now (held_of d c.args.disk) (work_of ran.outcome (held_of d ran.disk)) (held_of d c.redo.new.disk) c.in-Ok.done.transactions
    c.requires.mounted (λ t. redone_by c.args.s.now (d.image c.args.disk) (d.image c.redo.new.disk) (d.page_count c.redo.new.disk) c.in-Ok.done (c.whole_pages-pages.ensures.whole t) (is.redone t)) is.stable
    (d.fault_count c.args.disk) (d.fault_count c.redo.new.disk) (d.fault_count ran.disk) ran.outcome.end is.cause c.run_from.ensures.ends

pub returns-in-Err-clause-ends : goal.returns-in-Err-clause-ends
returns-in-Err-clause-ends g c =
    let d = g.D.Disk in
    let s = c.args.s.now in
    let is = c.in-Err.ensures in
    let made = c.idle in
    let held = held_of d c.args.disk in
    let left = held_of d c.redo.new.disk in
    let it = stopped d.tells d.tells_crashes (planned c.args.plan.now c.args.printed) c.args.is_left c.args.now s held left c.requires.mounted is.behind is.moments (d.fault_count c.args.disk) (d.fault_count c.redo.new.disk) c.in-Err.why is.redone is.same_image is.same_past is.cause in
    rw made.ensures.disk
    (subst (λ (e : End). LinesEnd d.tells d.tells_crashes (planned c.args.plan.now c.args.printed) c.args.is_left c.args.now s held (work_of made.result.outcome left) (faults_of d c.args.disk c.redo.new.disk) e) (sym (made.ensures.end ∙ c.end_of.ensures))
    (subst (λ (w : Work). LinesEnd d.tells d.tells_crashes (planned c.args.plan.now c.args.printed) c.args.is_left c.args.now s held w (faults_of d c.args.disk c.redo.new.disk) (end_of c.in-Err.why))
    (same_empty made.result.outcome left made.ensures.text made.ensures.history made.ensures.told) it))
