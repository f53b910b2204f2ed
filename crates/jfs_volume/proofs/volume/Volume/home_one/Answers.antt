use Rattle.std.proofs.Common.{ℕ, List, [], ◌∷◌, ◌++◌, set, refl, sym, ap, ◌∙◌, arith}
use Rattle.jfs_disk.specs.Crash.{written, last_of}
use Rattle.jfs_disk.specs.Image.{Image, page_of}
use Rattle.jfs_pages.specs.Kept.{image_in}
use Rattle.jfs_volume.proofs.Stand.{image-same, image-at}
use Rattle.jfs_volume.proofs.Homing.{home_moves, fails_moves}
use Rattle.jfs_volume.proofs.volume.Volume.home_one.Goals as goal

pub returns-in-Ok-clause-home : goal.returns-in-Ok-clause-home
returns-in-Ok-clause-home g c =
    let old = c.self.inside in
    let new = c.home.new.self in
    let d = g.D.Disk in
    let e = c.in-Ok.ensures in
    let dirty = rw (← c.self.view_is) at c.requires in
    let there = old.cache.within c.args.n (old.cache.kept.dirty_there c.args.n dirty) in
    let page = image-at old.cache.blocks (d.image old.cache.disk) old.cache.kept c.args.n there in
    rw (← c.self.view_is) (λ seen asked told crashes half s.
    home_moves seen asked _ _ half c.args.n s
    (record {
      there = there;
      inside = λ t. omega (arith, there, old.cache.place, (g.met.D.Disk.has_pages old.cache.disk (told t)).number);
      parts = rw (e.blocks, e.count, e.room) refl;
      view = λ t. ap (λ (b : ℕ). image_in b (d.image new.disk) new.kept) e.blocks ∙ image-same old.cache.blocks (d.image old.cache.disk) (d.image new.disk) old.cache.kept new.kept (e.pages (told t));
    })
    refl dirty e.dirty e.goes.0
    (λ t. e.sends.image (told t) ∙ ap (λ (bytes : List ℕ). set (d.image old.cache.disk) c.args.n bytes) (sym page))
    (λ t k. e.sends.states (crashes k) ∙ ap (λ (bytes : List ℕ). d.past old.cache.disk ++ written c.args.n bytes (last_of (d.past old.cache.disk)) ∷ []) (sym page ∙ ap (λ (image : Image). page_of image c.args.n) (s.view t))))

pub returns-in-Err-WriteFault-clause-home : goal.returns-in-Err-WriteFault-clause-home
returns-in-Err-WriteFault-clause-home g c =
    let old = c.self.inside in
    let new = c.home.new.self in
    let d = g.D.Disk in
    let e = rw c.in-Err-WriteFault.field-0-is at c.in-Err-WriteFault.ensures in
    let dirty = rw (← c.self.view_is) at c.requires in
    let there = old.cache.within c.args.n (old.cache.kept.dirty_there c.args.n dirty) in
    let page = image-at old.cache.blocks (d.image old.cache.disk) old.cache.kept c.args.n there in
    rw (← c.self.view_is) (λ seen asked told crashes half s.
    rw c.halt.ensures.halted
    (fails_moves seen asked _ _ half c.args.n c.in-Err-WriteFault.fault s
    (record {
      there = there;
      inside = λ t. omega (arith, there, old.cache.place, (g.met.D.Disk.has_pages old.cache.disk (told t)).number);
      parts = rw (e.blocks, e.count, e.room) refl;
      view = λ t. ap (λ (b : ℕ). image_in b (d.image new.disk) new.kept) e.blocks ∙ image-same old.cache.blocks (d.image old.cache.disk) (d.image new.disk) old.cache.kept new.kept (e.pages (told t));
    })
    e.stays refl dirty e.goes.0
    (λ t. rw page (e.sends.image (told t)))
    (λ k. rw page (e.sends.states (crashes k)))
    (λ k. g.met.D.Disk.reads_now old.cache.disk (crashes k))
    (λ k. g.met.D.Disk.reads_now new.disk (crashes k))))

pub returns-in-Ok-clause-alone : goal.returns-in-Ok-clause-alone
returns-in-Ok-clause-alone g c =
    let old = c.self.inside in
    let new = c.home.new.self in
    let d = g.D.Disk in
    let e = c.home.ensures in
    rw (← c.self.view_is) (record {
      parts = rw (e.blocks, e.count, e.room) refl;
      view = λ t. ap (λ (b : ℕ). image_in b (d.image new.disk) new.kept) e.blocks ∙ image-same old.cache.blocks (d.image old.cache.disk) (d.image new.disk) old.cache.kept new.kept (e.pages t);
    })

pub returns-in-Err-NotYet-clause-alone : goal.returns-in-Err-NotYet-clause-alone
returns-in-Err-NotYet-clause-alone g c =
    let old = c.self.inside in
    let new = c.home.new.self in
    let d = g.D.Disk in
    let e = c.home.ensures in
    rw (← c.self.view_is) (record {
      parts = rw (e.blocks, e.count, e.room) refl;
      view = λ t. ap (λ (b : ℕ). image_in b (d.image new.disk) new.kept) e.blocks ∙ image-same old.cache.blocks (d.image old.cache.disk) (d.image new.disk) old.cache.kept new.kept (e.pages t);
    })

pub returns-in-Err-WriteFault-clause-alone : goal.returns-in-Err-WriteFault-clause-alone
returns-in-Err-WriteFault-clause-alone g c =
    let old = c.self.inside in
    let new = c.home.new.self in
    let d = g.D.Disk in
    let e = c.home.ensures in
    rw (← c.self.view_is) (rw c.halt.ensures.halted (record {
      parts = rw (e.blocks, e.count, e.room) refl;
      view = λ t. ap (λ (b : ℕ). image_in b (d.image new.disk) new.kept) e.blocks ∙ image-same old.cache.blocks (d.image old.cache.disk) (d.image new.disk) old.cache.kept new.kept (e.pages t);
    }))
