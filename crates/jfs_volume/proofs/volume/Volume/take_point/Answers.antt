use Rattle.jfs_volume.proofs.Settling.{points_moves}
use Rattle.jfs_volume.proofs.volume.Volume.take_point.Goals as goal

pub returns-clause-point : goal.returns-clause-point
returns-clause-point g c = rw (← c.self.view_is, c.take_point.ensures) (λ seen asked told crashes half s may. points_moves seen asked _ half s (rw (← c.self.view_is) at c.requires.empty) may)
