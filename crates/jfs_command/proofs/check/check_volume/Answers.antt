use Rattle.std.proofs.Common.{◌∙◌}
use Rattle.jfs_command.proofs.Looking.{not_looked}
use Rattle.jfs_command.proofs.Checking.{check_behind, check_goes, checked, stopped}
use Rattle.jfs_command.proofs.check.check_volume.Goals as goal

pub returns-in-Ok-list_findings-clause-meaning : goal.returns-in-Ok-list_findings-clause-meaning
returns-in-Ok-list_findings-clause-meaning g c =
    let made = c.new.ensures in
    checked g.D.Disk c.args.disk.now c.look.new.disk c.list_findings.new.disk c.in-Ok.s c.in-Ok-list_findings.listed c.new.result
    (record { pages = g.met.D.Disk.has_pages c.args.disk.now; looked = c.in-Ok.ensures.cause; same = c.look.ensures.image; ends = c.in-Ok-list_findings.ensures.ends })
    (record { image = λ t. c.list_findings.ensures.image t ∙ c.look.ensures.image t; past = λ t. c.list_findings.ensures.past t ∙ c.look.ensures.past t; history = made.history; told = made.told })
    made.text made.end

pub returns-in-Err-list_findings-clause-meaning : goal.returns-in-Err-list_findings-clause-meaning
returns-in-Err-list_findings-clause-meaning g c =
    let made = c.new-in-Err-list_findings-2 in
    stopped g.D.Disk c.args.disk.now c.look.new.disk c.list_findings.new.disk c.in-Ok.s c.in-Err-list_findings.end made.result
    (record { pages = g.met.D.Disk.has_pages c.args.disk.now; looked = c.in-Ok.ensures.cause; same = c.look.ensures.image; ends = c.in-Err-list_findings.ensures.ends })
    (record { image = λ t. c.list_findings.ensures.image t ∙ c.look.ensures.image t; past = λ t. c.list_findings.ensures.past t ∙ c.look.ensures.past t; history = made.ensures.history; told = made.ensures.told })
    (made.ensures.text ∙ c.new-in-Err-list_findings.ensures.items) made.ensures.end

pub returns-in-Err-clause-meaning : goal.returns-in-Err-clause-meaning
returns-in-Err-clause-meaning g c =
    let made = c.new-in-Err-2 in
    not_looked g.D.Disk c.args.disk.now c.look.new.disk c.in-Err.end made.result check_behind check_goes (g.met.D.Disk.has_pages c.args.disk.now) c.in-Err.ensures.cause
    (record { image = c.look.ensures.image; past = c.look.ensures.past; history = made.ensures.history; told = made.ensures.told })
    (made.ensures.text ∙ c.new-in-Err.ensures.items) made.ensures.end
