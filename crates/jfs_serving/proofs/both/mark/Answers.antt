use Rattle.std.proofs.Common.{◌≡◌, sym, ap, ◌∙◌, subst}
use Rattle.jfs_turns.specs.Both.{whole}
use Rattle.jfs_turns.specs.Standing.{VolumeStands, LogStands}
use Rattle.jfs_turns.specs.Views.{rejoined}
use Rattle.jfs_groups.specs.Log.{standing}
use Rattle.jfs_serving.specs.Held.{Knows}
use Rattle.jfs_serving.proofs.Marking.{room_back, main_is, aside_is, marked, marked_volume, marked_log, marked_knows}
use Rattle.jfs_serving.proofs.both.mark.Goals as goal

pub returns-clause-stand : goal.returns-clause-stand
returns-clause-stand g c =
    let b = c.mark_taken in
    let p = c.mark_syncpoints_as in
    let u = whole c.args.both.now in
    let of_volume = g.V.Stands.stands in
    let of_log = standing g.D.Disk g.E.HasRecords.logs g.E.HasRecords.start in
    let count = g.V.Stands.count in
    let told = p.ensures.told in
    let x = b.new.turn.volume.value in
    let y = b.new.turn.log.value in
    let k = b.new.turn.log.value.points in
    let n = c.durable-durable.result in
    let knows = c.requires.room.knows in
    let h = room_back of_volume of_log count u b.new.turn.log.seat.me.0 b.new.turn.volume.seat.me.0 told.0 x y b.ensures.told.0 b.ensures.told.1 told.1 in
    let durable = c.durable-durable.ensures ∙ ap (λ z. z.side.durable) p.ensures.same.1 ∙ h.log.count in
    let solid = h.log.stable in
    let main = main_is u b.new.turn.log.seat.me.0 b.new.turn.volume.seat.me.0 p.new.turn.log.seat.me c.raise.new.turn.seat.me told.0 k n b.ensures.told.0 b.ensures.told.1 told.4.0 c.raise.ensures.told in
    let half = aside_is u b.new.turn.log.seat.me.0 b.new.turn.volume.seat.me.0 p.new.turn.volume.seat.me.0 told.0 k b.ensures.told.0 b.ensures.told.1 told.4.1 in
    let all : rejoined c.raise.new.turn.seat.me.0 p.new.turn.volume.seat.me.0 ≡ marked u told.0 k n = (λ i. rejoined (main i) (half i)) in
    record {
      volume = subst (λ v. VolumeStands of_volume v (rejoined c.raise.new.turn.seat.me.0 p.new.turn.volume.seat.me.0)) (sym p.ensures.same.0) (subst (λ z. VolumeStands of_volume x z) (sym all) (marked_volume of_volume of_log count u x y told.0 k n knows h durable solid));
      log = subst (λ w. LogStands of_log w (rejoined c.raise.new.turn.seat.me.0 p.new.turn.volume.seat.me.0)) (sym (c.raise.ensures.same.1 ∙ p.ensures.same.1)) (subst (λ z. LogStands of_log y z) (sym all) (marked_log of_volume of_log count u x y told.0 k n knows h durable solid));
      knows = subst Knows (sym all) (marked_knows of_volume of_log count u x y told.0 k n knows h durable solid);
    }
