use Rattle.std.proofs.Common.{◌≡◌, ◌<◌, ◌≤◌, ◌+◌, ℕ, suc, true, false, List, length, drop, slice_get, refl, sym, ap, ◌∙◌, subst, arith}
use Rattle.jfs_imap.specs.Inodes.{Inodes, IsInodePage}
use Rattle.jfs_map_files.specs.declared.map_file.MapFiles.{MapFiles}
use Rattle.jfs_map_files.specs.Places.{AreWithin}
use Rattle.jfs_pages.specs.Dirty.{dirty_of}
use Rattle.jfs_halves.specs.Parts.{Parts}
use Rattle.jfs_halves.specs.Change.{after}
use Rattle.jfs_volume.specs.Shown.{PutsPage, Spoils}
use Rattle.jfs_volume.specs.Written.{writes}
use Rattle.jfs_volume.specs.MapsHome.{MapPage, OfInodes, page_at, inode_pages, AreHome, StopsAmong, with_inodes_written}
use Rattle.jfs_volume.proofs.Stand.{length-image}
use Rattle.jfs_volume.proofs.MapsWritten.{Reaches, next_inode, last_inode, none_home, begins, goes_on, stops_there, ends, marked-home, stale_inodes, fresh_inodes}
use Rattle.jfs_volume.proofs.Showing.{stays-else, shows-none, shows-more, shows-less}
use Rattle.jfs_volume.proofs.volume.Volume.home_inode_map.Goals as goal

pub loop-n-init : goal.loop-n-init
loop-n-init g c =
    let p = c.args.self.now in
    record {
      parts = refl;
      halted = c.requires.running;
      faults = refl;
      homes = λ seen asked told crashes half s. begins seen asked (inode_pages 0 p.files.inodes.places) p half s;
      shows = λ t. shows-none p.files.inodes.places (λ n. true) (IsInodePage p.inodes) p.view;
    }

pub home_inode_page-requires-clause-told : goal.home_inode_page-requires-clause-told
home_inode_page-requires-clause-told g c = ap (λ (q : Parts). q.told) c.loop-n.invariant.parts ∙ c.requires.told ∙ sym (ap (λ (q : Parts). q.appended) c.loop-n.invariant.parts)

pub home_inode_page-requires-clause-clean : goal.home_inode_page-requires-clause-clean
home_inode_page-requires-clause-clean g c b = ap (λ (q : Parts). dirty_of q.dirty b) c.loop-n.invariant.parts ∙ c.requires.clean b

pub loop-n-preserved : goal.loop-n-preserved
loop-n-preserved g c =
    let inv = c.loop-n.invariant in
    let e = c.home_inode_page.ensures in
    let p = c.args.self.now in
    let n = c.loop-n.n in
    let v = c.self.inside in
    let near : n < length p.files.inodes.places = rw (← c.self.view_is) (omega arith) in
    let within : AreWithin (length p.view) p.files.inodes.places = rw (← c.self.view_is) (subst (λ (size : ℕ). AreWithin size v.files.inodes.places) (sym (length-image v.cache.blocks (g.D.Disk.image v.cache.disk) v.cache.kept)) c.self.invariant.7.inodes_within) in
    record {
      parts = e.memory ∙ ap (λ (q : Parts). record q { view = c.home_inode_page.new.self.view; disk = c.home_inode_page.new.self.disk; past = c.home_inode_page.new.self.past; faults = c.home_inode_page.new.self.faults; halted = c.home_inode_page.new.self.halted }) inv.parts;
      halted = c.in-Ok.ensures.halted;
      faults = c.in-Ok.ensures.cause ∙ inv.faults;
      homes = λ seen asked told crashes half s.
          let places = p.files.inodes.places in
          let w = subst (λ (left : List MapPage). Reaches seen asked (inode_pages 0 places) left p c.loop-n.self half) (next_inode n places near) (inv.homes seen asked told crashes half s) in
          goes_on seen asked (inode_pages 0 places) (page_at true (OfInodes n) (slice_get places n)) (inode_pages (n + 1) (drop (n + 1) places)) p c.loop-n.self c.home_inode_page.new.self half
          (ap (λ (q : Parts). q.map) inv.parts) (ap (λ (q : Parts). q.inodes) inv.parts) w
          (subst (λ (ts : List MapPage). AreHome seen asked ts c.loop-n.self c.home_inode_page.new.self (after half (writes w.pages))) (ap (λ (q : Parts). page_at true (OfInodes n) (slice_get q.files.inodes.places n)) inv.parts)
          (c.in-Ok.ensures.home seen asked told crashes (after half (writes w.pages)) w.moves.stands));
      shows = λ t. shows-less (n + 1) (suc n) p.files.inodes.places (λ n. true) (IsInodePage p.inodes) p.view c.home_inode_page.new.self.view (omega arith) (shows-more n p.files.inodes.places (λ n. true) (IsInodePage p.inodes) p.view c.loop-n.self.view c.home_inode_page.new.self.view within (inv.shows t)
          (subst (λ (f : MapFiles). PutsPage true (slice_get f.inodes.places n) (IsInodePage p.inodes n) c.loop-n.self.view c.home_inode_page.new.self.view) (ap (λ (q : Parts). q.files) inv.parts)
          (subst (λ (m : Inodes). PutsPage true (slice_get c.loop-n.self.files.inodes.places n) (IsInodePage m n) c.loop-n.self.view c.home_inode_page.new.self.view) (ap (λ (q : Parts). q.inodes) inv.parts) (c.in-Ok.ensures.shows t))));
    }

pub returns-in-Err-clause-home : goal.returns-in-Err-clause-home
returns-in-Err-clause-home g c seen asked told crashes half s =
    let inv = c.loop-n.invariant in
    let p = c.args.self.now in
    let n = c.loop-n.n in
    let places = p.files.inodes.places in
    let stale : p.files.inodes.stale ≡ true = rw (← c.self.view_is) (sym c.is_stale.ensures ∙ c.if-not-is_stale.false) in
    let near : n < length p.files.inodes.places = rw (← c.self.view_is) (omega arith) in
    let w = subst (λ (left : List MapPage). Reaches seen asked (inode_pages 0 places) left p c.loop-n.self half) (next_inode n places near) (inv.homes seen asked told crashes half s) in
    subst (λ (ts : List MapPage). StopsAmong seen asked ts p c.home_inode_page.new.self half c.in-Err.fault) (sym (stale_inodes p.files.inodes stale))
    (stops_there seen asked (inode_pages 0 places) (page_at true (OfInodes n) (slice_get places n)) (inode_pages (n + 1) (drop (n + 1) places)) p c.loop-n.self c.home_inode_page.new.self half
    (ap (λ (q : Parts). q.map) inv.parts) (ap (λ (q : Parts). q.inodes) inv.parts) w c.in-Err.fault
    (subst (λ (ts : List MapPage). StopsAmong seen asked ts c.loop-n.self c.home_inode_page.new.self (after half (writes w.pages)) c.in-Err.fault) (ap (λ (q : Parts). page_at true (OfInodes n) (slice_get q.files.inodes.places n)) inv.parts)
    (c.in-Err.ensures.home seen asked told crashes (after half (writes w.pages)) w.moves.stands)))

pub returns-in-Err-clause-spoils : goal.returns-in-Err-clause-spoils
returns-in-Err-clause-spoils g c t =
    let p = c.args.self.now in
    let inv = c.loop-n.invariant in
    stays-else c.loop-n.n p.files.inodes.places (λ n. true) (IsInodePage p.inodes) p.view c.loop-n.self.view c.home_inode_page.new.self.view (inv.shows t)
    (subst (λ (f : MapFiles). Spoils (slice_get f.inodes.places c.loop-n.n) c.loop-n.self.view c.home_inode_page.new.self.view) (ap (λ (q : Parts). q.files) inv.parts) (c.in-Err.ensures.spoils t))

pub returns-clause-home : goal.returns-clause-home
returns-clause-home g c seen asked told crashes half s =
    let p = c.args.self.now in
    let places = p.files.inodes.places in
    let stale : p.files.inodes.stale ≡ true = rw (← c.self.view_is) (sym c.is_stale.ensures ∙ c.if-not-is_stale.false) in
    let far : length p.files.inodes.places ≤ c.loop-n.n = rw (← c.self.view_is) (omega arith) in
    let w = subst (λ (left : List MapPage). Reaches seen asked (inode_pages 0 places) left p c.loop-n.self half) (last_inode c.loop-n.n places far) (c.loop-n.invariant.homes seen asked told crashes half s) in
    rw c.inode_map_written.ensures
    (subst (λ (ts : List MapPage). AreHome seen asked ts p (record c.loop-n.self { files = with_inodes_written c.loop-n.self.files }) half) (sym (stale_inodes p.files.inodes stale))
    (marked-home seen asked (inode_pages 0 places) p c.loop-n.self (with_inodes_written c.loop-n.self.files) half (ends seen asked (inode_pages 0 places) p c.loop-n.self half w)))

pub returns-then-not-is_stale-clause-home : goal.returns-then-not-is_stale-clause-home
returns-then-not-is_stale-clause-home g c seen asked told crashes half s =
    let p = c.args.self.now in
    let fresh : p.files.inodes.stale ≡ false = rw (← c.self.view_is) (sym c.is_stale.ensures ∙ c.if-not-is_stale.true) in
    subst (λ (ts : List MapPage). AreHome seen asked ts p p half) (sym (fresh_inodes p.files.inodes fresh)) (none_home seen asked p half s)
