use Rattle.std.proofs.Common.{◌∙◌}
use Rattle.jfs_command.proofs.Looking.{not_looked}
use Rattle.jfs_command.proofs.LogShown.{log_behind, log_goes, log_shown, log_not_shown}
use Rattle.jfs_command.proofs.log.show_log.Goals as goal

pub returns-in-Ok-read_lines-clause-meaning : goal.returns-in-Ok-read_lines-clause-meaning
returns-in-Ok-read_lines-clause-meaning g c =
    let d = g.D.Disk in
    let made = c.new.ensures in
    let read = c.in-Ok-read_lines.ensures in
    log_shown d c.args.disk.now c.look.new.disk c.read_lines.new.disk c.in-Ok.s read.log.0 c.in-Ok-read_lines.text c.new.result
    (record { pages = g.met.D.Disk.has_pages c.args.disk.now; looked = c.in-Ok.ensures.cause; same = c.look.ensures.image; is = read.log.1; ends = read.log.2 })
    (record { image = λ t. c.read_lines.ensures.image t ∙ c.look.ensures.image t; past = λ t. c.read_lines.ensures.past t ∙ c.look.ensures.past t; history = made.history; told = made.told })
    made.text made.end

pub returns-in-Err-read_lines-clause-meaning : goal.returns-in-Err-read_lines-clause-meaning
returns-in-Err-read_lines-clause-meaning g c =
    let d = g.D.Disk in
    let made = c.new-in-Err-read_lines-2 in
    let read = c.in-Err-read_lines.ensures in
    log_not_shown d c.args.disk.now c.look.new.disk c.read_lines.new.disk c.in-Ok.s read.log.0 c.in-Err-read_lines.end made.result
    (record { pages = g.met.D.Disk.has_pages c.args.disk.now; looked = c.in-Ok.ensures.cause; same = c.look.ensures.image; is = read.log.1; ends = read.log.2 })
    (record { image = λ t. c.read_lines.ensures.image t ∙ c.look.ensures.image t; past = λ t. c.read_lines.ensures.past t ∙ c.look.ensures.past t; history = made.ensures.history; told = made.ensures.told })
    (made.ensures.text ∙ c.new-in-Err-read_lines.ensures.items) made.ensures.end

pub returns-in-Err-clause-meaning : goal.returns-in-Err-clause-meaning
returns-in-Err-clause-meaning g c =
    let made = c.new-in-Err-2 in
    not_looked g.D.Disk c.args.disk.now c.look.new.disk c.in-Err.end made.result log_behind log_goes (g.met.D.Disk.has_pages c.args.disk.now) c.in-Err.ensures.cause
    (record { image = c.look.ensures.image; past = c.look.ensures.past; history = made.ensures.history; told = made.ensures.told })
    (made.ensures.text ∙ c.new-in-Err.ensures.items) made.ensures.end
