use Rattle.std.proofs.Common.{refl}
use Rattle.jfs_turns.specs.Both.{whole}
use Rattle.jfs_groups.specs.Log.{standing}
use Rattle.jfs_serving.specs.Held.{seen_of}
use Rattle.jfs_serving.proofs.Marking.{together, room_of_same}
use Rattle.jfs_serving.proofs.both.commit_both.Goals as goal

pub commit-requires-clause-together : goal.commit-requires-clause-together
commit-requires-clause-together g c =
    let u = whole c.args.both.now in
    let of_log = standing g.D.Disk g.E.HasRecords.logs g.E.HasRecords.start in
    let stand = c.requires.stand in
    let s = stand.volume in
    (seen_of u s.0 s.1, together g.V.Stands.stands of_log g.V.Stands.count u c.args.both.now.volume.value c.args.both.now.log.value s.0 s.1 s.2 s.3 s.4 stand.log stand.knows)

pub mark-requires-clause-room : goal.mark-requires-clause-room
mark-requires-clause-room g c =
    let u = whole c.args.both.now in
    let of_log = standing g.D.Disk g.E.HasRecords.logs g.E.HasRecords.start in
    let stand = c.requires.stand in
    let s = stand.volume in
    let n = seen_of u s.0 s.1 in
    let makes = c.commit.ensures.makes n (together g.V.Stands.stands of_log g.V.Stands.count u c.args.both.now.volume.value c.args.both.now.log.value s.0 s.1 s.2 s.3 s.4 stand.log stand.knows) in
    record {
      points = makes.0;
      has = room_of_same g.V.Stands.stands of_log g.V.Stands.count n (seen_of u 0 0) makes.0 c.commit.new.self c.commit.new.log refl refl refl refl refl makes.1;
      knows = stand.knows;
    }
