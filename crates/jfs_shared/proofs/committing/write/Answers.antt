use Rattle.jfs_shared.proofs.Writing.{may, written, lost, may_halt}
use Rattle.jfs_shared.proofs.committing.write.Goals as goal

pub write-requires-clause-room : goal.write-requires-clause-room
write-requires-clause-room g c =
    let e = c.take_group-group.ensures in
    (may g.D.Disk c.args.shared.now c.args.log.now c.requires.running c.take_group-group.new.self c.take_group-group.result (record { bytes = e.text.0; ends = e.text.1; last = e.last.0; room = e.room; parts = e.parts; moves = e.taken }) c.requires.together).0

pub write-requires-clause-later : goal.write-requires-clause-later
write-requires-clause-later g c =
    let e = c.take_group-group.ensures in
    (may g.D.Disk c.args.shared.now c.args.log.now c.requires.running c.take_group-group.new.self c.take_group-group.result (record { bytes = e.text.0; ends = e.text.1; last = e.last.0; room = e.room; parts = e.parts; moves = e.taken }) c.requires.together).1

pub write-requires-clause-numbers : goal.write-requires-clause-numbers
write-requires-clause-numbers g c =
    let e = c.take_group-group.ensures in
    (may g.D.Disk c.args.shared.now c.args.log.now c.requires.running c.take_group-group.new.self c.take_group-group.result (record { bytes = e.text.0; ends = e.text.1; last = e.last.0; room = e.room; parts = e.parts; moves = e.taken }) c.requires.together).2

pub returns-in-Ok-clause-write : goal.returns-in-Ok-clause-write
returns-in-Ok-clause-write g c n k =
    let e = c.take_group-group.ensures in
    written g.D.Disk c.args.shared.now c.args.log.now c.requires.running c.take_group-group.new.self c.take_group-group.result (record { bytes = e.text.0; ends = e.text.1; last = e.last.0; room = e.room; parts = e.parts; moves = e.taken }) c.write.new.self c.in-Ok.ensures.written n k

pub returns-clause-write : goal.returns-clause-write
returns-clause-write g c n k =
    let e = c.take_group-group.ensures in
    lost g.D.Disk c.args.shared.now c.args.log.now c.requires.running c.take_group-group.new.self c.take_group-group.result (record { bytes = e.text.0; ends = e.text.1; last = e.last.0; room = e.room; parts = e.parts; moves = e.taken }) c.write.new.self c.in-Err.why.fault c.halt_for_log.new.self c.halt_for_log.ensures.halts c.in-Err.ensures.lost n k

pub halt_for_log-requires : goal.halt_for_log-requires
halt_for_log-requires g c =
    let e = c.take_group-group.ensures in
    record { stands = may_halt g.D.Disk c.args.shared.now c.args.log.now c.requires.running c.take_group-group.new.self c.take_group-group.result (record { bytes = e.text.0; ends = e.text.1; last = e.last.0; room = e.room; parts = e.parts; moves = e.taken }) c.requires.together }
