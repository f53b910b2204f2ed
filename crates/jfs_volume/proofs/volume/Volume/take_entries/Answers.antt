use Rattle.jfs_volume.proofs.Counts.{hands_moves}
use Rattle.jfs_volume.proofs.volume.Volume.take_entries.Goals as goal

pub returns-clause-handed : goal.returns-clause-handed
returns-clause-handed g c = rw (← c.self.view_is, c.take_all.ensures.rest) (λ seen asked told crashes half s. hands_moves seen asked _ half s)
