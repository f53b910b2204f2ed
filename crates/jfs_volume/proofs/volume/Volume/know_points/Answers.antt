use Rattle.jfs_volume.proofs.Settling.{knows_moves}
use Rattle.jfs_volume.proofs.volume.Volume.know_points.Goals as goal

pub returns-clause-known : goal.returns-clause-known
returns-clause-known g c = rw (← c.self.view_is) (λ seen asked told crashes half s. knows_moves seen asked _ half s)
