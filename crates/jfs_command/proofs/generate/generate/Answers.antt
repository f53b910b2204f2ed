use Rattle.std.proofs.Common.{◌∙◌, refl, List, ap, false}
use Rattle.std.specs.Global.{Vec}
use Rattle.jfs_plain.specs.declared.call.Line.{Line}
use Rattle.jfs_run.specs.Tasks.{plan_of}
use Rattle.jfs_command.specs.declared.printed.Printed.TheVariants.{Summary}
use Rattle.jfs_command.specs.Order.{Planned, by_number}
use Rattle.jfs_command.proofs.Running.{not_begun}
use Rattle.jfs_command.proofs.generate.generate.Goals as goal

pub returns-in-Ok-clause-meaning : goal.returns-in-Ok-clause-meaning
returns-in-Ok-clause-meaning g c =
    let clients = c.args.clients in
    let made : List (List Line) → Planned = λ plan. record { plan = plan; printed = Summary clients } in
    c.run_on_volume.ensures.meaning (by_number c.args.number c.args.calls clients)
    (ap (λ (l : List (Vec Line)). made (plan_of l)) c.as_slice.ensures.value ∙ ap made c.in-Ok.ensures.scripts)

pub returns-in-Err-clause-meaning : goal.returns-in-Err-clause-meaning
returns-in-Err-clause-meaning g c =
    let made = c.idle in
    rw made.ensures.disk
    (not_begun g.D.Disk c.args.disk (by_number c.args.number c.args.calls c.args.clients) false c.args.now made.result.outcome made.ensures.whole
    (record { image = λ t. refl; past = λ t. refl; history = made.ensures.history; told = made.ensures.told })
    made.ensures.text made.ensures.end)
