use Rattle.std.proofs.Common.{[], append-nil, arith, ap, sym, subst, ◌∙◌, length}
use Rattle.jfs_turns.specs.Standing.{LogStands}
use Rattle.jfs_groups.specs.Log.{standing, data_of, IsLost}
use Rattle.jfs_groups.specs.Points.{IsMarked}
use Rattle.jfs_groups.proofs.Stands.{may_write, written_stands, more_lost, group_lost, lost_stands}
use Rattle.jfs_groups.proofs.Leading.{has_failed}
use Rattle.jfs_groups.proofs.Led.{raised_stands, failed_stands, failed_goes}
use Rattle.jfs_groups.proofs.lead.lead.Goals as goal

pub write-requires-clause-numbers : goal.write-requires-clause-numbers
write-requires-clause-numbers g c =
    let of_log = standing g.D.Disk g.E.HasRecords.logs g.E.HasRecords.start in
    let v = c.args.turn.seat.me.0 in
    let e = c.collect-group.ensures in
    let stands = subst (λ y. LogStands of_log y v) (sym e.turn.1) c.requires.stands in
    (may_write g.E.HasRecords.logs g.D.Disk.tells g.D.Disk.tells_crashes (g.E.HasRecords.start v.base) (data_of g.D.Disk c.collect-group.result.1.value) v.log_list c.collect-group.result.1.seat.me.0.list v.taken v.log_durable v.log_points v.log_stable c.collect-group.result.0
    e.collects.before stands (ap (λ y. y.side.halted) e.turn.1 ∙ c.requires.running) e.collects.group).2

pub give_log-requires-clause-stands : goal.give_log-requires-clause-stands
give_log-requires-clause-stands g c =
    let of_log = standing g.D.Disk g.E.HasRecords.logs g.E.HasRecords.start in
    let v = c.args.turn.seat.me.0 in
    let w = c.collect-group.result.1.seat.me.0 in
    let e = c.collect-group.ensures in
    let stands = subst (λ y. LogStands of_log y v) (sym e.turn.1) c.requires.stands in
    let runs = c.requires.stands.runs c.requires.running in
    let written = written_stands g.E.HasRecords.logs g.D.Disk.tells g.D.Disk.tells_crashes (g.E.HasRecords.start v.base) (data_of g.D.Disk c.collect-group.result.1.value) (data_of g.D.Disk c.write.new.self) v.log_list w.list v.taken v.log_durable v.log_points v.log_stable c.collect-group.result.0 e.collects.before stands (ap (λ y. y.side.halted) e.turn.1 ∙ c.requires.running) e.collects.group c.in-Ok.ensures.written in
    subst (λ y. LogStands of_log y c.raise.new.turn.seat.me.0) (sym c.raise.ensures.same.1)
    (raised_stands g.E.HasClient.client g.E.HasRecords.logs g.E.HasRecords.start of_log c.write.new.self v c.collect-group.result.1.seat.me c.raise.new.turn.seat.me c.last.result c.collect-group.result.0 e.goes_on e.collects (omega (arith, runs.durable_all)) c.last.ensures c.raise.ensures.told written)

pub returns-clause-goes_on : goal.returns-clause-goes_on
returns-clause-goes_on g c = failed_goes g.E.HasClient.client c.args.turn.seat.me.0 c.collect-group.result.1.seat.me.0 c.halt_volume-turn.result.seat.me.0 c.give_log-in-Err.result.seat.me.0 c.collect-group.ensures.goes_on c.halt_volume-turn.ensures.goes_on (ap (λ x. x.0) c.give_log-in-Err.ensures.told)

pub returns-clause-leads : goal.returns-clause-leads
returns-clause-leads g c n within past =
    let of_log = standing g.D.Disk g.E.HasRecords.logs g.E.HasRecords.start in
    let v = c.args.turn.seat.me.0 in
    let w = c.collect-group.result.1.seat.me.0 in
    let u = c.halt_volume-turn.result.seat.me.0 in
    let e = c.collect-group.ensures in
    let h = c.halt_volume-turn.ensures in
    let lost = c.in-Err.ensures.lost in
    let stands = subst (λ y. LogStands of_log y v) (sym e.turn.1) c.requires.stands in
    let before = data_of g.D.Disk c.collect-group.result.1.value in
    let after = data_of g.D.Disk c.write.new.self in
    let runs = ap (λ y. y.side.halted) e.turn.1 ∙ c.requires.running in
    let all = h.keeps.3 ∙ e.collects.all in
    let leaves = λ (t : g.D.Disk.tells) (k : g.D.Disk.tells_crashes). subst (λ n. IsLost g.E.HasRecords.logs (g.E.HasRecords.start v.base).ring after.past u.log_list n v.log_durable u.log_points v.log_stable) (sym all) (more_lost g.E.HasRecords.logs g.D.Disk.tells g.D.Disk.tells_crashes (g.E.HasRecords.start v.base).ring after.past w.list u.log_list (length w.list) v.log_durable v.log_points u.log_points v.log_stable ([], append-nil w.list ∙ sym (h.keeps.2 ∙ e.collects.log)) (subst (λ ps. IsMarked ps u.log_points) e.collects.keeps.2 h.keeps.4)
    (group_lost g.E.HasRecords.logs g.D.Disk.tells g.D.Disk.tells_crashes (g.E.HasRecords.start v.base) before after v.log_list w.list v.taken v.log_durable v.log_points v.log_stable c.collect-group.result.0 c.in-Err.field-0.fault e.collects.before stands runs e.collects.group c.in-Err.ensures.lost t k)) in
    let kept = lost_stands g.E.HasRecords.logs g.D.Disk.tells g.D.Disk.tells_crashes (g.E.HasRecords.start v.base) before after v.log_list u.log_list v.taken u.taken v.log_durable v.log_points u.log_points v.log_stable c.collect-group.result.0 c.in-Err.field-0.fault stands runs lost leaves in
    has_failed of_log (λ y. y.side.halted) c.write.new.self u c.give_log-in-Err.result.seat.me.0 n c.in-Err.field-0.fault
    (failed_stands g.E.HasClient.client of_log c.write.new.self v w u e.goes_on h.goes_on e.collects.keeps h.keeps kept)
    h.exact (ap (λ x. x.0) c.give_log-in-Err.ensures.told) lost.halts (omega (arith, past, c.requires.stands.count, e.collects.keeps.0, h.keeps.0))

pub give_log-requires-in-Err-clause-stands : goal.give_log-requires-in-Err-clause-stands
give_log-requires-in-Err-clause-stands g c =
    let of_log = standing g.D.Disk g.E.HasRecords.logs g.E.HasRecords.start in
    let v = c.args.turn.seat.me.0 in
    let w = c.collect-group.result.1.seat.me.0 in
    let u = c.halt_volume-turn.result.seat.me.0 in
    let e = c.collect-group.ensures in
    let h = c.halt_volume-turn.ensures in
    let stands = subst (λ y. LogStands of_log y v) (sym e.turn.1) c.requires.stands in
    let before = data_of g.D.Disk c.collect-group.result.1.value in
    let after = data_of g.D.Disk c.write.new.self in
    let runs = ap (λ y. y.side.halted) e.turn.1 ∙ c.requires.running in
    let all = h.keeps.3 ∙ e.collects.all in
    let leaves = λ (t : g.D.Disk.tells) (k : g.D.Disk.tells_crashes). subst (λ n. IsLost g.E.HasRecords.logs (g.E.HasRecords.start v.base).ring after.past u.log_list n v.log_durable u.log_points v.log_stable) (sym all) (more_lost g.E.HasRecords.logs g.D.Disk.tells g.D.Disk.tells_crashes (g.E.HasRecords.start v.base).ring after.past w.list u.log_list (length w.list) v.log_durable v.log_points u.log_points v.log_stable ([], append-nil w.list ∙ sym (h.keeps.2 ∙ e.collects.log)) (subst (λ ps. IsMarked ps u.log_points) e.collects.keeps.2 h.keeps.4)
    (group_lost g.E.HasRecords.logs g.D.Disk.tells g.D.Disk.tells_crashes (g.E.HasRecords.start v.base) before after v.log_list w.list v.taken v.log_durable v.log_points v.log_stable c.collect-group.result.0 c.in-Err.field-0.fault e.collects.before stands runs e.collects.group c.in-Err.ensures.lost t k)) in
    let kept = lost_stands g.E.HasRecords.logs g.D.Disk.tells g.D.Disk.tells_crashes (g.E.HasRecords.start v.base) before after v.log_list u.log_list v.taken u.taken v.log_durable v.log_points u.log_points v.log_stable c.collect-group.result.0 c.in-Err.field-0.fault stands runs c.in-Err.ensures.lost leaves in
    subst (λ y. LogStands of_log y u) (sym h.turn.1)
    (failed_stands g.E.HasClient.client of_log c.write.new.self v w u e.goes_on h.goes_on e.collects.keeps h.keeps kept)
