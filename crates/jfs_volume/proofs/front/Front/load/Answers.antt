use Rattle.std.proofs.Common.{◌∙◌, sym, arith}
use Rattle.jfs_pages.specs.Whole.{page_of-image_in}
use Rattle.jfs_volume.proofs.front.Front.load.Goals as goal

pub returns-in-Ok-clause-bytes : goal.returns-in-Ok-clause-bytes
returns-in-Ok-clause-bytes g c t =
    let cache = c.args.self.now.cache.now in
    c.copy_from_slice.ensures.after ∙ c.in-Ok.ensures.bytes t ∙ sym (page_of-image_in cache.blocks (g.D.Disk.image cache.disk) cache.kept c.args.n (omega (arith, c.requires, c.args.self.now.place)))
