use Rattle.std.specs.Global.{Vec}
use Rattle.std.proofs.Common.{ℕ, Result, Err, sym, ap, subst, ◌∙◌}
use Rattle.jfs_command.specs.declared.outcome.End.{End}
use Rattle.jfs_command.specs.Held.{held_of}
use Rattle.jfs_command.specs.Redo.{RedoEnds}
use Rattle.jfs_command.proofs.Looking.{faults_of}
use Rattle.jfs_command.proofs.RedoMounted.{redone, not_redone}
use Rattle.jfs_command.proofs.redo.redo_mounted.Goals as goal

pub returns-in-Ok-redone_line-clause-ends : goal.returns-in-Ok-redone_line-clause-ends
returns-in-Ok-redone_line-clause-ends g c =
    let d = g.D.Disk in
    let is = c.in-Ok.ensures in
    redone d.tells d.tells_crashes c.args.s.now (held_of d c.args.disk.now) (held_of d c.redo.new.disk) c.requires.mounted (faults_of d c.args.disk.now c.redo.new.disk) c.in-Ok.done c.into_bytes.result
    is.redone is.stable is.behind is.moments (ap (λ (v : Vec ℕ). v.items) c.into_bytes.ensures.value ∙ c.in-Ok-redone_line.ensures) is.cause

pub returns-in-Err-clause-ends : goal.returns-in-Err-clause-ends
returns-in-Err-clause-ends g c =
    let d = g.D.Disk in
    let s = c.args.s.now in
    let is = c.in-Err.ensures in
    let held = held_of d c.args.disk.now in
    let left = held_of d c.redo.new.disk in
    let ends = not_redone d.tells d.tells_crashes s held left c.requires.mounted (d.fault_count c.args.disk.now) (d.fault_count c.redo.new.disk) c.in-Err.why (c.requires.accepted, c.requires.mounted) is.redone is.same_image is.same_past is.behind is.moments is.cause in
    subst (λ (e : End). let r : Result (Vec ℕ) End = Err e in RedoEnds d.tells d.tells_crashes s held left (faults_of d c.args.disk.now c.redo.new.disk) r) (sym c.end_of.ensures) ends
