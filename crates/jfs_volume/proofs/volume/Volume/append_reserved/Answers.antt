use Rattle.std.proofs.Common.{◌≡◌, ◌≤◌, ◌∙◌, ℕ, true, length, sym, ap, subst, rules}
use Rattle.jfs_halves.specs.Parts.{Parts}
use Rattle.jfs_volume.specs.Called.{are_clean}
use Rattle.jfs_volume.proofs.CallJoins.{lies_within, enters, stays, crowded, unread, fails}
use Rattle.jfs_volume.proofs.Unbusy.{writable_by}
use Rattle.jfs_volume.proofs.volume.Volume.append_reserved.Goals as goal

pub append-requires-clause-contents : goal.append-requires-clause-contents
append-requires-clause-contents g c = lies_within (length c.args.self.now.map.states) c.beside.new.self.blocks c.args.pages.now
    (subst (λ (n : ℕ). length c.args.self.now.map.states ≤ n) (sym (ap (λ (p : Parts). p.blocks) c.beside.ensures.read.parts)) c.requires.blocks) c.requires.contents

pub returns-in-Entered : goal.returns-in-Entered
returns-in-Entered g c =
    let b = c.in-Ok.ensures in
    let e = c.in-Entered.ensures in
    let p = c.args.self.now in
    let clean : are_clean c.args.pages.now p.dirty ≡ true = sym c.are_clean.ensures ∙ search (rules) in
    enters g.D.Disk.tells g.D.Disk.tells_crashes p c.beside.new.self c.append.new.self b.read c.args.entry c.args.tx.now c.args.pages.now c.in-Entered.entry c.in-Ok.beside b.whole clean
    (writable_by c.args.tx.now c.args.pages.now p clean (rw (← c.self.view_is, ← c.requires.taken, ← c.as_slice.ensures) (sym c.have_places.ensures ∙ search (rules)))) b.beside.0 b.beside.1 e.appends e.adds e.room e.fault e.shows

pub returns-in-NoRoom : goal.returns-in-NoRoom
returns-in-NoRoom g c =
    let b = c.in-Ok.ensures in
    let e = c.in-NoRoom.ensures in
    crowded g.D.Disk.tells g.D.Disk.tells_crashes c.args.self.now c.beside.new.self c.append.new.self b.read c.args.tx.now c.args.pages.now c.in-Ok.beside (sym c.are_clean.ensures ∙ search (rules)) b.beside.0 b.beside.1 e.stays e.room e.fault e.shows

pub returns-in-NoMemory : goal.returns-in-NoMemory
returns-in-NoMemory g c =
    let b = c.in-Ok.ensures in
    let e = c.in-NoMemory.ensures in
    stays g.D.Disk.tells g.D.Disk.tells_crashes c.args.self.now c.beside.new.self c.append.new.self b.read c.args.tx.now c.args.pages.now (sym c.are_clean.ensures ∙ search (rules)) b.beside.0 e.stays e.fault e.shows

pub returns-in-Unread : goal.returns-in-Unread
returns-in-Unread g c =
    let b = c.in-Ok.ensures in
    let e = c.in-Unread.ensures in
    unread g.D.Disk.tells g.D.Disk.tells_crashes c.args.self.now c.beside.new.self c.append.new.self b.read c.args.tx.now c.args.pages.now c.in-Unread.fault (sym c.are_clean.ensures ∙ search (rules)) b.beside.0 e.stays e.fault e.shows

pub returns : goal.returns
returns g c =
    let b = c.in-Ok.ensures in
    let e = c.in-Failed.ensures in
    let p = c.args.self.now in
    let clean : are_clean c.args.pages.now p.dirty ≡ true = sym c.are_clean.ensures ∙ search (rules) in
    fails g.D.Disk.tells g.D.Disk.tells_crashes p c.beside.new.self c.append.new.self b.read c.args.entry c.args.tx.now c.args.pages.now c.in-Ok.beside.notes c.in-Failed.fault clean
    (writable_by c.args.tx.now c.args.pages.now p clean (rw (← c.self.view_is, ← c.requires.taken, ← c.as_slice.ensures) (sym c.have_places.ensures ∙ search (rules)))) b.beside.0 b.beside.1.each e.appends e.stays e.fault e.shows
