use Rattle.std.proofs.Common.{◌∙◌}
use Rattle.jfs_command.proofs.Looking.{not_looked}
use Rattle.jfs_command.proofs.Showing.{super_behind, super_goes, shown, no_room}
use Rattle.jfs_command.proofs.show.show_super.Goals as goal

pub returns-in-Ok-super_lines-clause-meaning : goal.returns-in-Ok-super_lines-clause-meaning
returns-in-Ok-super_lines-clause-meaning g c =
    let made = c.new.ensures in
    shown g.D.Disk c.args.disk.now c.look.new.disk c.in-Ok.s c.new.result (g.met.D.Disk.has_pages c.args.disk.now) c.in-Ok.ensures.cause
    (record { image = c.look.ensures.image; past = c.look.ensures.past; history = made.history; told = made.told }) (made.text ∙ c.in-Ok-super_lines.ensures) made.end

pub returns-in-Err-super_lines-clause-meaning : goal.returns-in-Err-super_lines-clause-meaning
returns-in-Err-super_lines-clause-meaning g c =
    let made = c.new-in-Err-super_lines-2 in
    no_room g.D.Disk c.args.disk.now c.look.new.disk c.in-Ok.s made.result (g.met.D.Disk.has_pages c.args.disk.now) c.in-Ok.ensures.cause
    (record { image = c.look.ensures.image; past = c.look.ensures.past; history = made.ensures.history; told = made.ensures.told })
    (made.ensures.text ∙ c.new-in-Err-super_lines.ensures.items) made.ensures.end

pub returns-in-Err-clause-meaning : goal.returns-in-Err-clause-meaning
returns-in-Err-clause-meaning g c =
    let made = c.new-in-Err-2 in
    not_looked g.D.Disk c.args.disk.now c.look.new.disk c.in-Err.end made.result super_behind super_goes (g.met.D.Disk.has_pages c.args.disk.now) c.in-Err.ensures.cause
    (record { image = c.look.ensures.image; past = c.look.ensures.past; history = made.ensures.history; told = made.ensures.told })
    (made.ensures.text ∙ c.new-in-Err.ensures.items) made.ensures.end
