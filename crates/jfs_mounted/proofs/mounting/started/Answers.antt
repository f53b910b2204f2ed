use Rattle.std.proofs.Common.{◌≡◌, ◌∙◌, sym, ap, subst}
use Rattle.jfs_disk.specs.Image.{page_of}
use Rattle.jfs_disk.specs.Crash.{last_of}
use Rattle.jfs_disk.specs.Moment.{IsResting}
use Rattle.jfs_pages.specs.Kept.{image_in}
use Rattle.jfs_mounted.proofs.Started.{image_is}
use Rattle.jfs_mounted.proofs.mounting.started.Goals as goal

pub returns-clause-fresh : goal.returns-clause-fresh
returns-clause-fresh g c =
    let cache = c.new-cache.result in
    let same = c.new-cache.ensures.disk.0 in
    let whole : cache.blocks ≡ g.D.Disk.page_count cache.disk = c.new-cache.ensures.disk.1 ∙ c.pages-pages.ensures ∙ ap (λ (d : g.row.D.Denot). g.D.Disk.page_count d) (sym same) in (
      image_in cache.blocks (g.D.Disk.image cache.disk) cache.kept,
      (λ t. image_is cache.blocks (g.D.Disk.image cache.disk) cache.kept ((g.met.D.Disk.has_pages cache.disk t).number ∙ sym whole)
          (λ q. c.new-cache.ensures.pages q ∙ ap (λ (d : g.row.D.Denot). page_of (g.D.Disk.image d) q) (sym same)) ∙ ap (λ (d : g.row.D.Denot). g.D.Disk.image d) same),
      c.start.ensures.fresh whole (λ k. subst (λ (d : g.row.D.Denot). IsResting (last_of (g.D.Disk.past d))) (sym same) (c.requires.resting k)),
    )
