use Rattle.jfs_turns.specs.Standing.{ArePoints}
use Rattle.jfs_turns.proofs.turns.Turns.mark_syncpoints.Given as goal

abbrev pub ghosts-mark_syncpoints_as : goal.ghosts-mark_syncpoints_as
ghosts-mark_syncpoints_as g a = record { fits = ArePoints g.V.Stands.stands g.L.Stands.stands g.V.Stands.count g.L.Stands.count a.turn.now.volume.value a.turn.now.log.value a.turn.now.volume.seat.me.0 a.turn.now.log.seat.me.0 }
