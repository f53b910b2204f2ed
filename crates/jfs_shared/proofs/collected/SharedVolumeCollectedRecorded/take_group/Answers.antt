use Rattle.std.proofs.Common.{ℕ, List, length, subst}
use Rattle.jfs_kept_history.specs.legal.specs.served.specs.call.specs.volume.specs.Room.{IsWithinRoom}
use Rattle.jfs_shared.proofs.Stands.{group_stands, group_is}
use Rattle.jfs_shared.proofs.collected.SharedVolumeCollectedRecorded.take_group.Goals as goal

pub returns : goal.returns
returns g c = record {
  takes = λ base list taken told points known s.
      let x = c.args.self.now in
      let e = c.take_group.ensures in (
        group_stands g.D.Disk.tells g.D.Disk.tells_crashes base list taken told points known x.points x.is_broken_off x.volume s c.take_group.new.self e.parts
            (subst (λ (b : List ℕ). IsWithinRoom x.volume.text.ring x.volume.text.sync x.volume.text.place (length b)) e.text.0 e.room) e.taken,
        group_is g.D.Disk.tells g.D.Disk.tells_crashes base list taken told points known x.points x.is_broken_off x.volume s c.take_group.result e.text.0 e.text.1 e.last.0 e.room,
      );
}
