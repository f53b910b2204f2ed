use Rattle.std.proofs.Common.{◌+◌, ◌++◌, ℕ, List, [], ◌∷◌, length, ap, ◌∙◌, subst}
use Rattle.std.proofs.lemmas.Bool.{eqb-false}
use Rattle.jfs_logpages.specs.Group.{Holds, position_of}
use Rattle.jfs_logpages.specs.Ring.{ends_with}
use Rattle.jfs_volume.specs.halves.specs.Change.{Takes, after}
use Rattle.jfs_volume.proofs.Counts.{log_stops_moves}
use Rattle.jfs_volume_calls.specs.Together.{log_parts}
use Rattle.jfs_volume_calls.proofs.Chained.{group_closes, group_lost}
use Rattle.jfs_volume_calls.proofs.committing.write.Goals as goal

pub returns-in-Ok-clause-group : goal.returns-in-Ok-clause-group
returns-in-Ok-clause-group g c seen asked told crashes both s t none =
    let d = g.D.Disk in
    let old = c.args.volume.now in
    let text = c.take_group-text.ensures in
    let e = c.in-Ok.ensures in
    group_closes seen asked old c.take_group-text.new.self (log_parts d c.args.log.now) (log_parts d c.write_group.new.self) both s t none c.requires.together.running (eqb-false old.taken old.appended c.requires.waits)
    (text.taken seen asked told crashes both.volume s)
    (record {
      ring = e.size.0;
      position = e.position ∙ ap (λ (bytes : List ℕ). position_of c.args.log.now.last + length bytes) text.text.0;
      durable = e.durable.0 ∙ text.last.0;
      halted = e.durable.1;
      holds = λ k before ends h. (
        ends_with (length before) ends c.take_group-text.result.ends.items,
        subst (λ (bytes : List ℕ). Holds c.write_group.new.self.last (before ++ bytes) (ends_with (length before) ends c.take_group-text.result.ends.items) (d.image c.write_group.new.self.part)) text.text.0 (e.holds (told k) before ends h).0,
      );
      resting = λ k. e.resting (crashes k);
    })

pub returns-clause-group : goal.returns-clause-group
returns-clause-group g c seen asked told crashes both s t none =
    let d = g.D.Disk in
    let old = c.args.volume.now in
    let text = c.take_group-text.ensures in
    let e = c.in-Err.ensures in
    let taken = text.taken seen asked told crashes both.volume s in
    rw c.halt.ensures.halted
    (group_lost seen asked old c.take_group-text.new.self _ (log_parts d c.args.log.now) (log_parts d c.write_group.new.self) both c.in-Err.why.fault s t none c.requires.together.running (eqb-false old.taken old.appended c.requires.waits)
    taken (log_stops_moves seen asked c.take_group-text.new.self (after both.volume (Takes ∷ [])) c.in-Err.why.fault taken.stands)
    (record { ring = e.size.0; durable = e.halts.1; halted = e.halts.0 }))
