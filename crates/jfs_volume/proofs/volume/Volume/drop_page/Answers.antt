use Rattle.std.proofs.Common.{ℕ, refl, ap, ◌∙◌, arith}
use Rattle.jfs_disk.specs.Image.{Image, page_of}
use Rattle.jfs_pages.specs.Kept.{image_in}
use Rattle.jfs_volume.proofs.Stand.{image-dropped}
use Rattle.jfs_volume.proofs.Dropping.{other_page}
use Rattle.jfs_volume.proofs.Homing.{drops_moves}
use Rattle.jfs_volume.proofs.volume.Volume.drop_page.Goals as goal

pub returns-clause-drop : goal.returns-clause-drop
returns-clause-drop g c =
    let old = c.self.inside in
    let new = c.forget.new.self in
    let d = g.D.Disk in
    let e = c.forget.ensures in
    let may = rw (← c.self.view_is) at c.requires.may in
    let early = rw (← c.self.view_is) at c.requires.told in
    let page = c.args.freed.page in
    let there = old.cache.within page (old.cache.kept.dirty_there page may.0) in
    rw (← c.self.view_is) (λ seen asked told crashes half s freed.
    drops_moves seen asked _ _ half c.args.freed s freed (omega (arith, early, s.told)) there
    (λ t. omega (arith, there, old.cache.place, (g.met.D.Disk.has_pages old.cache.disk (told t)).number))
    (rw (e.disk.0, e.disk.1) refl)
    may.0 may.1 e.dirty
    (λ t. ap (λ (b : ℕ). image_in b (d.image new.disk) new.kept) e.disk.1 ∙ image-dropped old.cache.blocks (d.image old.cache.disk) (d.image new.disk) old.cache.kept new.kept page there e.pages))

pub returns-clause-parts : goal.returns-clause-parts
returns-clause-parts g c = let e = c.forget.ensures in rw (← c.self.view_is, e.disk.0, e.disk.1) refl

pub returns-clause-shows : goal.returns-clause-shows
returns-clause-shows g c =
    let old = c.self.inside in
    let new = c.forget.new.self in
    let d = g.D.Disk in
    let e = c.forget.ensures in
    let may = rw (← c.self.view_is) at c.requires.may in
    let page = c.args.freed.page in
    let there = old.cache.within page (old.cache.kept.dirty_there page may.0) in
    rw (← c.self.view_is) (λ t q other.
    ap (λ (image : Image). page_of image q) (ap (λ (b : ℕ). image_in b (d.image new.disk) new.kept) e.disk.1 ∙ image-dropped old.cache.blocks (d.image old.cache.disk) (d.image new.disk) old.cache.kept new.kept page there e.pages)
    ∙ other_page old.cache.blocks (d.image old.cache.disk) old.cache.kept page q _ other)
