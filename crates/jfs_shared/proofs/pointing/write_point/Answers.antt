use Rattle.std.proofs.Common.{ap, ◌∙◌, arith, length, [], ◌∷◌, ◌++◌}
use Rattle.jfs_kept_history.specs.legal.specs.served.specs.call.specs.halves.specs.Parts.{Parts}
use Rattle.jfs_shared.proofs.Writing.{point_size, stands, pointed_both, pointed_lost, meets}
use Rattle.jfs_shared.proofs.pointing.write_point.Goals as goal

pub returns-in-Ok-clause-point : goal.returns-in-Ok-clause-point
returns-in-Ok-clause-point g c n k home =
    pointed_both g.D.Disk c.args.shared.now c.args.log.now c.requires.running.0 c.reach.new.self.text c.reach.new.self.bytes (c.reach.ensures ∙ c.appended.ensures ∙ ap (λ (p : Parts). p.appended) c.take_point.ensures.parts) (omega (arith, c.appended.type_inv, c.appended.ensures, ap (λ (p : Parts). p.appended) c.take_point.ensures.parts)) c.requires.empty c.requires.told c.take_point.new.self c.take_point.ensures.parts c.take_point.ensures.point n k home
    c.know_points.new.self c.know_points.ensures.parts c.know_points.ensures.known c.write.new.self c.in-Ok.ensures.written

pub returns-in-Err-clause-point : goal.returns-in-Err-clause-point
returns-in-Err-clause-point g c n k home =
    pointed_lost g.D.Disk c.args.shared.now c.args.log.now c.requires.running.0 c.reach.new.self.text c.reach.new.self.bytes (c.reach.ensures ∙ c.appended.ensures ∙ ap (λ (p : Parts). p.appended) c.take_point.ensures.parts) (omega (arith, c.appended.type_inv, c.appended.ensures, ap (λ (p : Parts). p.appended) c.take_point.ensures.parts)) c.requires.empty c.requires.told c.take_point.new.self c.take_point.ensures.parts c.take_point.ensures.point n k home
    c.reach.new.self c.halt_for_log.new.self c.halt_for_log.ensures.halts c.write.new.self c.in-Err.why.fault c.reach.new.self.ends c.in-Err.ensures.lost

pub write-requires-clause-later : goal.write-requires-clause-later
write-requires-clause-later g c =
    let m = meets g.D.Disk c.args.shared.now c.args.log.now c.requires.running.0 c.requires.empty c.requires.told c.requires.room (c.requires.together.0, c.requires.together.1) in
    omega (arith, m.durable, c.reach.ensures, c.appended.ensures, ap (λ (p : Parts). p.appended) c.take_point.ensures.parts)

pub write-requires-clause-room : goal.write-requires-clause-room
write-requires-clause-room g c =
    let size = point_size g.D.Disk c.args.shared.now c.args.log.now c.requires.running.0 c.reach.new.self.text c.reach.new.self.bytes (c.reach.ensures ∙ c.appended.ensures ∙ ap (λ (p : Parts). p.appended) c.take_point.ensures.parts) in
    omega (arith, size)

pub write-requires-clause-numbers : goal.write-requires-clause-numbers
write-requires-clause-numbers g c =
    let m = meets g.D.Disk c.args.shared.now c.args.log.now c.requires.running.0 c.requires.empty c.requires.told c.requires.room (c.requires.together.0, c.requires.together.1) in
    let size = point_size g.D.Disk c.args.shared.now c.args.log.now c.requires.running.0 c.reach.new.self.text c.reach.new.self.bytes (c.reach.ensures ∙ c.appended.ensures ∙ ap (λ (p : Parts). p.appended) c.take_point.ensures.parts) in
    omega (arith, m.place, c.requires.room, size)

pub overflow_add-log : goal.overflow_add-log
overflow_add-log g c =
    let m = meets g.D.Disk c.args.shared.now c.args.log.now c.requires.running.0 c.requires.empty c.requires.told c.requires.room (c.requires.together.0, c.requires.together.1) in
    omega (arith, c.in-Ok.ensures.written.points, m.log_points, m.points, c.requires.room)

pub halt_for_log-requires : goal.halt_for_log-requires
halt_for_log-requires g c =
    let t = c.requires.together in
    let n = t.0 in
    record { stands = (n.base, n.list, length n.list, length n.list, n.points ++ length n.list ∷ [], n.known, stands g.D.Disk c.args.shared.now c.args.log.now c.requires.running.0 c.reach.new.self.text c.reach.new.self.bytes (c.reach.ensures ∙ c.appended.ensures ∙ ap (λ (p : Parts). p.appended) c.take_point.ensures.parts) (omega (arith, c.appended.type_inv, c.appended.ensures, ap (λ (p : Parts). p.appended) c.take_point.ensures.parts)) c.requires.empty c.requires.told c.take_point.new.self c.take_point.ensures.parts c.take_point.ensures.point n t.1 t.2) }

pub overflow_add-shared : goal.overflow_add-shared
overflow_add-shared g c =
    let m = meets g.D.Disk c.args.shared.now c.args.log.now c.requires.running.0 c.requires.empty c.requires.told c.requires.room (c.requires.together.0, c.requires.together.1) in
    omega (arith, m.points, c.requires.room)

pub returns-in-Ok-clause-pages : goal.returns-in-Ok-clause-pages
returns-in-Ok-clause-pages g c =
    let taken = c.take_point.ensures.parts in
    let known = c.know_points.ensures.parts in
    record {
      dirty = ap (λ (p : Parts). p.dirty) known ∙ ap (λ (p : Parts). p.dirty) taken;
      files = ap (λ (p : Parts). p.files) known ∙ ap (λ (p : Parts). p.files) taken;
      past = ap (λ (p : Parts). p.past) known ∙ ap (λ (p : Parts). p.past) taken;
    }
