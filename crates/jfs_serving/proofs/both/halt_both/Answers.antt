use Rattle.std.proofs.Common.{[], append-nil, ap, sym, subst, arith, length}
use Rattle.jfs_turns.specs.Both.{whole}
use Rattle.jfs_turns.specs.Standing.{VolumeStands, LogStands}
use Rattle.jfs_turns.specs.Views.{got_points}
use Rattle.jfs_groups.specs.Commit.{GoesOn}
use Rattle.jfs_groups.specs.Log.{standing, data_of}
use Rattle.jfs_groups.specs.Points.{IsMarked}
use Rattle.jfs_groups.proofs.Leading.{halves_again, halted_stands, behind_all}
use Rattle.jfs_groups.proofs.Points.{marked_all}
use Rattle.jfs_groups.proofs.Stands.{halted_stands_for}
use Rattle.jfs_serving.specs.Held.{Knows}
use Rattle.jfs_serving.proofs.Halting.{halted_log, halted_knows, halted_goes}
use Rattle.jfs_serving.proofs.Numbers.{front_is_short}
use Rattle.jfs_serving.proofs.both.halt_both.Goals as goal

pub halt-requires : goal.halt-requires
halt-requires g c = let u = whole c.args.both.now in let s = c.requires.stand.volume in record { stands = (u.base, u.list, u.taken, s.0, u.points, s.1, s.2) }

pub mark_syncpoints_as-requires-clause-said : goal.mark_syncpoints_as-requires-clause-said
mark_syncpoints_as-requires-clause-said g c =
    let u = whole c.args.both.now in
    let s = c.requires.stand.volume in
    let h = c.halt.ensures.halts u.base u.list u.taken s.0 u.points s.1 s.2 in
    (h.0, ((s.0, s.1, h.2, s.3, s.4), marked_all u.points h.0 h.1), behind_all u.points h.0 h.1, sym h.3)

pub mark_syncpoints_as-requires-clause-bound : goal.mark_syncpoints_as-requires-clause-bound
mark_syncpoints_as-requires-clause-bound g c =
    let u = whole c.args.both.now in
    let s = c.requires.stand.volume in
    let h = c.halt.ensures.halts u.base u.list u.taken s.0 u.points s.1 s.2 in
    let knows = c.requires.stand.knows in
    omega (arith, h.3, c.requires.stand.log.stable, knows.stable_within, ap (λ l. length l) knows.points, front_is_short u.points h.0 (behind_all u.points h.0 h.1))

pub returns-clause-stand : goal.returns-clause-stand
returns-clause-stand g c =
    let of_log = standing g.D.Disk g.E.HasRecords.logs g.E.HasRecords.start in
    let u = whole c.args.both.now in
    let m = c.mark_syncpoints_as.ensures in
    let stand = c.requires.stand in
    let k = c.args.both.now.log.value.points in
    let is = halves_again (got_points m.told.0 k u) c.mark_syncpoints_as.new.turn m.told.4 in
    record {
      volume = subst (λ x. VolumeStands g.V.Stands.stands x (whole c.mark_syncpoints_as.new.turn)) (sym m.same.0)
          (halted_stands g.V.Stands.stands c.halt.new.self u m.told.0 k c.mark_syncpoints_as.new.turn m.told.4 m.told.1.0);
      log = subst (λ y. LogStands of_log y (whole c.mark_syncpoints_as.new.turn)) (sym m.same.1) (subst (λ v. LogStands of_log c.args.both.now.log.value v) (sym is)
          (halted_log u m.told.0 k stand.knows m.told.2 stand.log.stable of_log c.args.both.now.log.value
          (halted_stands_for g.E.HasRecords.logs g.D.Disk.tells g.D.Disk.tells_crashes (g.E.HasRecords.start u.base) (data_of g.D.Disk c.args.both.now.log.value) u.log_list u.log_list u.taken u.log_durable u.log_points m.told.0 u.log_stable c.args.fault c.requires.halted ([], append-nil u.log_list) (subst (λ ps. IsMarked ps m.told.0) (sym stand.knows.points) m.told.1.1) stand.log)));
      knows = subst Knows (sym is) (halted_knows u m.told.0 k stand.knows m.told.2 stand.log.stable);
    }

pub returns-clause-goes_on : goal.returns-clause-goes_on
returns-clause-goes_on g c =
    let u = whole c.args.both.now in
    let m = c.mark_syncpoints_as.ensures in
    let stand = c.requires.stand in
    let is = halves_again (got_points m.told.0 c.args.both.now.log.value.points u) c.mark_syncpoints_as.new.turn m.told.4 in
    subst (λ v. GoesOn g.E.HasClient.client u v) (sym is) (halted_goes u m.told.0 c.args.both.now.log.value.points stand.knows m.told.2 stand.log.stable g.E.HasClient.client)
