use Rattle.std.proofs.Common.{List, Ok, refl, sym, subst}
use Rattle.jfs_plain.specs.declared.call.Line.{Line}
use Rattle.std.specs.Global.{Vec}
use Rattle.jfs_run.specs.Tasks.{plan_of}
use Rattle.jfs_command.specs.Order.{by_scripts}
use Rattle.jfs_command.specs.Scripts.{ScriptsSay}
use Rattle.jfs_command.proofs.Running.{performs_by, not_read}
use Rattle.jfs_command.proofs.run.run_scripts.Goals as goal

pub returns-in-Ok-clause-meaning : goal.returns-in-Ok-clause-meaning
returns-in-Ok-clause-meaning g c =
    let read = c.in-Ok.ensures.ends in
    performs_by g.D.Disk g.S.Source c.args.is_left c.args.now c.args.disk c.run_on_volume.result.disk c.args.scripts.now.items c.read_scripts.new.scripts.items c.run_on_volume.result.outcome read.0
    (record { number = read.1; texts_are = read.2 }) read.3.1
    (c.run_on_volume.ensures.meaning (by_scripts read.0) (subst (λ (l : List (Vec Line)). ScriptsSay read.0 (Ok (plan_of l))) (sym c.as_slice.ensures.value) read.3.0, refl))

pub returns-in-Err-clause-meaning : goal.returns-in-Err-clause-meaning
returns-in-Err-clause-meaning g c =
    let made = c.idle in
    let read = c.in-Err.ensures.ends in
    rw made.ensures.disk
    (not_read g.D.Disk g.S.Source c.args.is_left c.args.now c.args.disk c.args.disk c.args.scripts.now.items c.read_scripts.new.scripts.items made.result.outcome read.0
    (record { number = read.1; texts_are = read.2 }) c.in-Err.end made.ensures.whole
    (record { image = λ t. refl; past = λ t. refl; history = made.ensures.history; told = made.ensures.told })
    refl made.ensures.text made.ensures.end read.3)
