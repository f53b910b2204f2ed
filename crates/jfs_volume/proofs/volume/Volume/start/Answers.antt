use Rattle.std.proofs.Common.{refl, sym, ◌∙◌}
use Rattle.jfs_volume.proofs.Starting.{fresh_stands}
use Rattle.jfs_volume.proofs.Stand.{image-at, length-image}
use Rattle.jfs_volume.proofs.volume.Volume.start.Goals as goal

pub returns-clause-fresh : goal.returns-clause-fresh
returns-clause-fresh g c whole rests seen asked told crashes =
    let cache = c.args.cache in
    let image = g.D.Disk.image cache.disk in
    fresh_stands seen asked c.args.ring _
    (record {
      counts = (refl, refl, refl, refl, refl, refl);
      empty = (c.requires.clean, c.new.ensures.items, c.new-3.ensures.items);
      text = c.new-2.ensures;
      number = length-image cache.blocks image cache.kept;
      disk = λ t q h. sym (image-at cache.blocks image cache.kept q h ∙ cache.clean (told t) q (rw c.requires.clean refl));
      low = λ t k. ((g.met.D.Disk.has_pages cache.disk (told t)).number ∙ sym whole, rests (crashes k), g.met.D.Disk.reads_now cache.disk (crashes k));
    })
