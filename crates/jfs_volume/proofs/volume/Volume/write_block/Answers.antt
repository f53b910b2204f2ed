use Rattle.std.proofs.Common.{ℕ, refl, ap, ◌∙◌, arith}
use Rattle.jfs_disk.specs.Image.{page_of}
use Rattle.jfs_pages.specs.Kept.{image_in}
use Rattle.jfs_volume.proofs.Stand.{image-at, length-image}
use Rattle.jfs_volume.proofs.Putting.{image-set}
use Rattle.jfs_volume.proofs.Writing.{write_moves, write_fails}
use Rattle.jfs_volume.proofs.volume.Volume.write_block.Goals as goal

pub returns-in-Ok-clause-writes : goal.returns-in-Ok-clause-writes
returns-in-Ok-clause-writes g c =
    let old = c.self.inside in
    let new = c.put.new.self in
    let d = g.D.Disk in
    let e = c.in-Ok.ensures in
    let r = rw (← c.self.view_is) at c.requires in
    rw (← c.self.view_is) (λ seen asked told crashes half s.
    write_moves seen asked _ _ half c.args.n c.args.page.now.0 s
    (record {
      may = record { there = r.there; clean = r.clean; not_busy = r.not_busy; runs = r.running };
      inside = λ t. omega (arith, r.there, old.cache.place, (g.met.D.Disk.has_pages old.cache.disk (told t)).number);
      parts = rw (e.blocks, e.dirty, e.count, e.room) refl;
    })
    refl
    (λ t. ap (λ (b : ℕ). image_in b (d.image new.disk) new.kept) e.blocks ∙ image-set old.cache.blocks (d.image old.cache.disk) (d.image new.disk) old.cache.kept new.kept c.args.n c.args.page.now.0 r.there (e.others (told t)) (e.bytes (told t) r.clean))
    (λ t. e.puts.image (told t))
    (λ t k. e.puts.states (crashes k)))

pub returns-in-Ok-clause-written : goal.returns-in-Ok-clause-written
returns-in-Ok-clause-written g c =
    let old = c.self.inside in
    let new = c.put.new.self in
    let d = g.D.Disk in
    let e = c.in-Ok.ensures in
    let r = rw (← c.self.view_is) at c.requires in
    rw (← c.self.view_is) (
      rw (e.blocks, e.dirty, e.count, e.room, e.cause) refl,
      λ t. ap (λ (b : ℕ). image_in b (d.image new.disk) new.kept) e.blocks ∙ image-set old.cache.blocks (d.image old.cache.disk) (d.image new.disk) old.cache.kept new.kept c.args.n c.args.page.now.0 r.there (e.others t) (e.bytes t r.clean),
    )

pub returns-in-Err-clause-writes : goal.returns-in-Err-clause-writes
returns-in-Err-clause-writes g c =
    let old = c.self.inside in
    let new = c.put.new.self in
    let d = g.D.Disk in
    let e = c.in-Err.ensures in
    let r = rw (← c.self.view_is) at c.requires in
    rw (← c.self.view_is) (λ seen asked told crashes half s.
    rw c.halt.ensures.halted
    (write_fails seen asked _ _ half c.args.n c.args.page.now.0 c.in-Err.fault s
    (record {
      may = record { there = r.there; clean = r.clean; not_busy = r.not_busy; runs = r.running };
      inside = λ t. omega (arith, r.there, old.cache.place, (g.met.D.Disk.has_pages old.cache.disk (told t)).number);
      parts = rw (e.blocks, e.dirty, e.count, e.room) refl;
    })
    refl
    (record {
      view = λ t. ap (λ (b : ℕ). image_in b (d.image new.disk) new.kept) e.blocks ∙ image-set old.cache.blocks (d.image old.cache.disk) (d.image new.disk) old.cache.kept new.kept c.args.n (page_of (d.image new.disk) c.args.n) r.there (e.others (told t)) (e.clean (told t) r.clean);
      shown = λ t. image-at old.cache.blocks (d.image old.cache.disk) old.cache.kept c.args.n r.there ∙ old.cache.clean (told t) c.args.n r.clean;
      whole = λ t. omega (arith, r.there, length-image old.cache.blocks (d.image old.cache.disk) old.cache.kept);
      reads = λ t. e.puts.image (told t);
      leaves = λ k. e.puts.states (crashes k);
      before = λ k. g.met.D.Disk.reads_now old.cache.disk (crashes k);
      now = λ k. g.met.D.Disk.reads_now new.disk (crashes k);
    })))

pub returns-in-Err-clause-written : goal.returns-in-Err-clause-written
returns-in-Err-clause-written g c =
    let old = c.self.inside in
    let new = c.put.new.self in
    let d = g.D.Disk in
    let e = c.in-Err.ensures in
    let r = rw (← c.self.view_is) at c.requires in
    rw (← c.self.view_is) (rw c.halt.ensures.halted (
      rw (e.blocks, e.dirty, e.count, e.room) refl,
      λ t. (page_of (d.image new.disk) c.args.n, ap (λ (b : ℕ). image_in b (d.image new.disk) new.kept) e.blocks ∙ image-set old.cache.blocks (d.image old.cache.disk) (d.image new.disk) old.cache.kept new.kept c.args.n (page_of (d.image new.disk) c.args.n) r.there (e.others t) (e.clean t r.clean)),
    ))
