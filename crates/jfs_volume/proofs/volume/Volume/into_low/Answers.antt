use Rattle.std.proofs.Common.{sym, ◌∙◌}
use Rattle.jfs_volume.proofs.Stand.{image-at}
use Rattle.jfs_volume.proofs.volume.Volume.into_low.Goals as goal

pub returns-clause-clean : goal.returns-clause-clean
returns-clause-clean g c =
    let cache = c.self.inside.cache in
    rw (← c.self.view_is) (λ t clean p h. sym (image-at cache.blocks (g.D.Disk.image cache.disk) cache.kept p h ∙ cache.clean t p (clean p)))
