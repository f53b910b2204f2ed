use Rattle.jfs_pages.specs.Whole.{whole_in}
use Rattle.jfs_volume.proofs.volume.Volume.has_whole_pages.Goals as goal

pub returns : goal.returns
returns g c = let v = c.self.inside in rw (← c.self.view_is) (λ tells.
    whole_in v.cache.blocks (g.D.Disk.page_count v.cache.disk) (g.D.Disk.image v.cache.disk) v.cache.kept v.cache.place (g.met.D.Disk.has_pages v.cache.disk tells))
