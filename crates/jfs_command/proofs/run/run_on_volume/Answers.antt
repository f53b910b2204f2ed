use Rattle.std.proofs.Common.{sym, ap, ◌∙◌}
use Rattle.jfs_disk.specs.Image.{Image, page_of}
use Rattle.jfs_super.specs.Super.{super_of}
use Rattle.jfs_super.proofs.Rules.{accepted_pages}
use Rattle.jfs_command.specs.Order.{planned}
use Rattle.jfs_command.proofs.RunSaid.{order_is}
use Rattle.jfs_command.proofs.Running.{ran_on, not_looked}
use Rattle.jfs_command.proofs.run.run_on_volume.Goals as goal

pub run_by_state-requires-clause-spelled : goal.run_by_state-requires-clause-spelled
run_by_state-requires-clause-spelled g c κs within = λ tells.
    let looked = c.in-Ok.ensures.cause in
    ap (λ (i : Image). super_of (page_of i 8)) (c.look.ensures.image tells) ∙ sym (ap super_of (looked.1.1 tells (accepted_pages c.in-Ok.s (g.D.Disk.page_count c.args.disk) looked.3))) ∙ sym looked.2

pub returns-in-Ok-clause-meaning : goal.returns-in-Ok-clause-meaning
returns-in-Ok-clause-meaning g c = λ order good.
    ran_on g.D.Disk c.args.disk c.look.new.disk c.run_by_state.result.disk c.in-Ok.s (planned c.args.plan.now c.args.printed) c.args.is_left c.args.now c.run_by_state.result.outcome order (order_is order) good
    (record { pages = c.look.ensures.whole; looked = c.in-Ok.ensures.cause; image = c.look.ensures.image; past = c.look.ensures.past; ends = c.run_by_state.ensures.ends })

pub returns-in-Err-clause-meaning : goal.returns-in-Err-clause-meaning
returns-in-Err-clause-meaning g c = λ order good.
    let made = c.idle in
    rw made.ensures.disk
    (not_looked g.D.Disk c.args.disk c.look.new.disk c.in-Err.end made.result.outcome c.args.is_left c.args.now (planned c.args.plan.now c.args.printed) order (order_is order) good c.look.ensures.whole c.in-Err.ensures.cause
    (record { image = c.look.ensures.image; past = c.look.ensures.past; history = made.ensures.history; told = made.ensures.told })
    made.ensures.text made.ensures.end)
