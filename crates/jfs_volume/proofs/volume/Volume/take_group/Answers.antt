use Rattle.jfs_volume.proofs.Counts.{takes_moves}
use Rattle.jfs_volume.proofs.volume.Volume.take_group.Goals as goal

pub returns-clause-taken : goal.returns-clause-taken
returns-clause-taken g c = rw (← c.self.view_is, c.take.ensures.rest) (λ seen asked told crashes half s. takes_moves seen asked _ half s)
