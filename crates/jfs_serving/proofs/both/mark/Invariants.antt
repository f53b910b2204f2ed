use Rattle.jfs_turns.specs.Both.{whole}
use Rattle.jfs_groups.specs.Log.{standing}
use Rattle.jfs_serving.specs.Held.{seen_of}
use Rattle.jfs_serving.specs.Room.{HasRoom}
use Rattle.jfs_serving.proofs.both.mark.Given as goal

abbrev pub ghosts-mark_syncpoints_as : goal.ghosts-mark_syncpoints_as
ghosts-mark_syncpoints_as g a = record { fits = λ ps. HasRoom g.V.Stands.stands (standing g.D.Disk g.E.HasRecords.logs g.E.HasRecords.start) g.V.Stands.count (seen_of (whole a.turn.now) 0 0) ps a.turn.now.volume.value a.turn.now.log.value }
