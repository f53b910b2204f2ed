use Rattle.std.proofs.Common.{◌∙◌}
use Rattle.jfs_command.proofs.Redoing.{redone, not_redone, not_looked}
use Rattle.jfs_command.proofs.redo.redo_volume.Goals as goal

pub returns-in-Ok-redo_by_state-clause-meaning : goal.returns-in-Ok-redo_by_state-clause-meaning
returns-in-Ok-redo_by_state-clause-meaning g c =
    let made = c.new.ensures in
    redone g.D.Disk c.args.disk.now c.look.new.disk c.redo_by_state.new.disk c.in-Ok.s c.in-Ok-redo_by_state.text c.new.result
    (record { pages = g.met.D.Disk.has_pages c.args.disk.now; looked = c.in-Ok.ensures.cause; count = c.look.ensures.pages; image = c.look.ensures.image; past = c.look.ensures.past; ends = c.in-Ok-redo_by_state.ensures.ends })
    (record { history = made.history; told = made.told })
    made.text made.end

pub returns-in-Err-redo_by_state-clause-meaning : goal.returns-in-Err-redo_by_state-clause-meaning
returns-in-Err-redo_by_state-clause-meaning g c =
    let made = c.new-in-Err-redo_by_state-2 in
    not_redone g.D.Disk c.args.disk.now c.look.new.disk c.redo_by_state.new.disk c.in-Ok.s c.in-Err-redo_by_state.end made.result
    (record { pages = g.met.D.Disk.has_pages c.args.disk.now; looked = c.in-Ok.ensures.cause; count = c.look.ensures.pages; image = c.look.ensures.image; past = c.look.ensures.past; ends = c.in-Err-redo_by_state.ensures.ends })
    (record { history = made.ensures.history; told = made.ensures.told })
    (made.ensures.text ∙ c.new-in-Err-redo_by_state.ensures.items) made.ensures.end

pub returns-in-Err-clause-meaning : goal.returns-in-Err-clause-meaning
returns-in-Err-clause-meaning g c =
    let made = c.new-in-Err-2 in
    not_looked g.D.Disk c.args.disk.now c.look.new.disk c.in-Err.end made.result (g.met.D.Disk.has_pages c.args.disk.now) c.in-Err.ensures.cause
    (record { image = c.look.ensures.image; past = c.look.ensures.past; history = made.ensures.history; told = made.ensures.told })
    (made.ensures.text ∙ c.new-in-Err.ensures.items) made.ensures.end
