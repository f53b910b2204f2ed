use Rattle.std.proofs.Common.{◌+◌, ◌++◌, ℕ, List, [], ◌∷◌, length, ap, ◌∙◌, subst}
use Rattle.jfs_logpages.specs.Group.{Holds, position_of}
use Rattle.jfs_logpages.specs.Ring.{ends_with}
use Rattle.jfs_volume.specs.halves.specs.Parts.{Parts}
use Rattle.jfs_volume.specs.halves.specs.Change.{Points, Takes, after}
use Rattle.jfs_volume.proofs.Counts.{log_stops_moves}
use Rattle.jfs_volume_calls.specs.Together.{log_parts}
use Rattle.jfs_volume_calls.proofs.Chained.{point_closes, point_lost}
use Rattle.jfs_volume_calls.proofs.syncing.write_point.Goals as goal

pub returns-in-Ok-clause-point : goal.returns-in-Ok-clause-point
returns-in-Ok-clause-point g c seen asked told crashes both s t none may =
    let d = g.D.Disk in
    let old = c.args.volume.now in
    let e = c.in-Ok.ensures in
    let taken = c.take_point.ensures.point seen asked told crashes both.volume s may in
    let point = c.reach.new.self in
    point_closes seen asked old c.take_point.new.self c.know_points.new.self (log_parts d c.args.log.now) (log_parts d c.write_group.new.self) both s t none c.requires.together.running c.requires.empty may
    taken (c.know_points.ensures.known seen asked told crashes (after both.volume (Points ∷ Takes ∷ [])) taken.stands)
    (record {
      ring = e.size.0;
      position = e.position ∙ ap (λ (bytes : List ℕ). position_of c.args.log.now.last + length bytes) point.bytes;
      durable = e.durable.0 ∙ c.reach.ensures ∙ c.appended.ensures ∙ ap (λ (p : Parts). p.appended) c.take_point.ensures.parts;
      halted = e.durable.1;
      holds = λ k before ends h. (
        ends_with (length before) ends point.text.ends.items,
        subst (λ (bytes : List ℕ). Holds c.write_group.new.self.last (before ++ bytes) (ends_with (length before) ends point.text.ends.items) (d.image c.write_group.new.self.part)) point.bytes (e.holds (told k) before ends h).0,
      );
      resting = λ k. e.resting (crashes k);
    })

pub returns-in-Err-clause-point : goal.returns-in-Err-clause-point
returns-in-Err-clause-point g c seen asked told crashes both s t none may =
    let d = g.D.Disk in
    let old = c.args.volume.now in
    let e = c.in-Err.ensures in
    let taken = c.take_point.ensures.point seen asked told crashes both.volume s may in
    rw c.halt.ensures.halted
    (point_lost seen asked old c.take_point.new.self _ (log_parts d c.args.log.now) (log_parts d c.write_group.new.self) both c.in-Err.why.fault s t none c.requires.together.running c.requires.empty may
    taken (log_stops_moves seen asked c.take_point.new.self (after both.volume (Points ∷ Takes ∷ [])) c.in-Err.why.fault taken.stands)
    (record { ring = e.size.0; durable = e.halts.1; halted = e.halts.0 }))
