use Rattle.std.proofs.Common.{◌≡◌, true, Option, Some, None, ℕ, slice_get, refl, ap, sym, ◌∙◌, subst}
use Rattle.jfs_imap.specs.Inodes.{IsInodePage}
use Rattle.jfs_halves.specs.Parts.{Parts}
use Rattle.jfs_volume.specs.MapsHome.{OfInodes, page_at, AreHome, GoHome}
use Rattle.jfs_volume.proofs.MapsWritten.{home_of, none_home}
use Rattle.jfs_volume.proofs.Showing.{spoils-of}
use Rattle.jfs_volume.proofs.volume.Volume.home_inode_page.Goals as goal

pub returns-in-None-clause-home : goal.returns-in-None-clause-home
returns-in-None-clause-home g c seen asked told crashes half s =
    let p = c.args.self.now in
    let place : slice_get p.files.inodes.places c.args.n ≡ None = rw (← c.self.view_is) (sym c.place.ensures ∙ c.in-None.is) in
    subst (λ (o : Option ℕ). AreHome seen asked (page_at true (OfInodes c.args.n) o) p p half) (sym place) (none_home seen asked p half s)

pub returns-in-Some-clause-home : goal.returns-in-Some-clause-home
returns-in-Some-clause-home g c seen asked told crashes half s =
    let p = c.args.self.now in
    let b = c.in-Some.block in
    let place : slice_get p.files.inodes.places c.args.n ≡ Some b = rw (← c.self.view_is) (sym c.place.ensures ∙ c.in-Some.is) in
    let page : IsInodePage p.inodes c.args.n c.write_page.new.page.0 = rw (← c.self.view_is) c.write_page.ensures in
    subst (λ (o : Option ℕ). GoHome seen asked (page_at true (OfInodes c.args.n) o) p c.write_block.new.self half c.write_block.result) (sym place)
    (home_of seen asked (OfInodes c.args.n b) b c.write_page.new.page.0 p c.write_block.new.self half c.write_block.result (refl, page, c.note_bytes.ensures.bytes, c.note_bytes.ensures.size) (c.write_block.ensures.writes seen asked told crashes half s))

pub returns-in-Some-clause-spoils : goal.returns-in-Some-clause-spoils
returns-in-Some-clause-spoils g c t =
    spoils-of g.D.Disk.tells (slice_get c.args.self.now.files.inodes.places c.args.n) c.in-Some.block c.write_page.new.page.0 c.args.self.now c.write_block.new.self c.write_block.result (ap (λ (p : Parts). slice_get p.files.inodes.places c.args.n) (sym c.self.view_is) ∙ (sym c.place.ensures ∙ c.in-Some.is)) c.write_block.ensures.written t
