use Rattle.std.proofs.Common.{ap}
use Rattle.jfs_halves.specs.Parts.{Parts}
use Rattle.jfs_volume.proofs.volume.Volume.told_all.Goals as goal

pub returns-clause-told : goal.returns-clause-told
returns-clause-told g c = rw (ap (λ (p : Parts). p.taken) c.told.view_is) at c.told-2.ensures.told
