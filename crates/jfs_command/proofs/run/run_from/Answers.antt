use Rattle.std.proofs.Common.{◌≡◌, List, refl, sym, subst}
use Rattle.jfs_plain.specs.declared.call.Entry.{Entry}
use Rattle.jfs_disk.specs.Crash.{last_of}
use Rattle.jfs_disk.specs.Moment.{IsResting}
use Rattle.jfs_run.specs.Calls.{Calls}
use Rattle.jfs_run.specs.Run.{RunIs, seen}
use Rattle.jfs_run.specs.Left.{LeavesRun, IsLeftNeverMounted}
use Rattle.jfs_run.specs.Legal.{LeavesImage, IfUnmounted}
use Rattle.jfs_run.specs.kept_history.specs.Keepable.{IsKeepableImage}
use Rattle.jfs_command.specs.Held.{held_of}
use Rattle.jfs_run.specs.Tasks.{plan_of}
use Rattle.jfs_command.specs.Order.{planned}
use Rattle.jfs_command.specs.Run.{AreReplies, Tells}
use Rattle.jfs_command.proofs.RunLines.{ended}
use Rattle.jfs_command.proofs.run.run_from.Goals as goal

pub returns-clause-ends : goal.returns-clause-ends
returns-clause-ends g c =
    let d = g.D.Disk in
    let s = c.args.s.now in
    let ran = c.run_lines-disk in
    let made = c.outcome_of in
    let calls : Calls = record { history = made.result.history.items; told = made.result.told.items } in
    let replies : AreReplies d.tells s (d.image c.args.disk) c.args.now ran.result.history.items = ran.ensures.legal in
    let same : record { history = ran.result.history.items; told = ran.result.told.items } ≡ calls = rw (made.ensures.history, made.ensures.told) refl in
    ended d.tells d.tells_crashes (planned c.args.plan.now c.args.printed) c.args.is_left c.args.now s (held_of d c.args.disk) (held_of d ran.result.disk) (d.fault_count c.args.disk) (d.fault_count ran.result.disk) calls c.args.redone
    ran.result.end made.result.end made.result.text.items
    (subst (λ (x : Calls). RunIs d.tells d.tells_crashes s (plan_of c.args.plan.now) c.args.is_left (seen d c.args.disk) (seen d ran.result.disk) x ran.result.end) same ran.ensures.ran)
    (subst (λ (es : List Entry). AreReplies d.tells s (d.image c.args.disk) c.args.now es) (sym made.ensures.history) replies)
    (subst (λ (es : List Entry). d.tells → IfUnmounted ran.result.end c.args.is_left (LeavesImage s (d.image c.args.disk) c.args.now es (d.image ran.result.disk))) (sym made.ensures.history) ran.ensures.leaves)
    ran.ensures.again
    (subst (λ (x : Calls). d.tells → d.tells_crashes → IsKeepableImage s (d.image c.args.disk) → LeavesRun (IsLeftNeverMounted s (d.image c.args.disk) (d.image ran.result.disk) (IsResting (last_of (d.past c.args.disk))) (last_of (d.past ran.result.disk))) s (d.image c.args.disk) c.args.now c.args.is_left x (last_of (d.past ran.result.disk)) ran.result.end) same ran.ensures.left)
    (subst (λ (x : Calls). Tells c.args.redone c.args.printed ran.result.end x made.result.end made.result.text.items) same made.ensures.tells)
