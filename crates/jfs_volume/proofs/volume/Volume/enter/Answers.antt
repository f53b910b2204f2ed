use Rattle.std.proofs.Common.{◌≡◌, ◌≤◌, ◌+◌, ◌∷◌, [], ℕ, true, Bool, List, length, refl, sym, ap, ◌∙◌, subst, arith}
use Rattle.jfs_disk.specs.Image.{Image}
use Rattle.jfs_ranges.specs.declared.edit.Edit.{Edit}
use Rattle.jfs_ranges.specs.Apply.{touches_tx}
use Rattle.jfs_pages.specs.declared.dirty.Dirty.{Dirty}
use Rattle.jfs_pages.specs.Dirty.{dirty_of, touched_by}
use Rattle.jfs_pages.specs.Kept.{image_in, dirty_in}
use Rattle.jfs_records.specs.Records.{tx_of}
use Rattle.jfs_halves.specs.Parts.{Text, StandsFor}
use Rattle.jfs_bmap.specs.States.{Blocks, AreReserved}
use Rattle.jfs_halves.specs.Change.{Enters, after}
use Rattle.jfs_halves.proofs.Joined.{join}
use Rattle.jfs_volume.specs.Append.{IsWritable, entered, unreserved}
use Rattle.jfs_halves.specs.crash_core.specs.Image.{pages_after}
use Rattle.jfs_volume.specs.Data.{store_of, ArePut, IsPartlyPut, put_pages}
use Rattle.jfs_volume.specs.Runs.{taken_in}
use Rattle.jfs_volume.specs.Written.{writes}
use Rattle.jfs_volume.proofs.Busy.{between_entered}
use Rattle.jfs_volume.proofs.Later.{later_entered}
use Rattle.jfs_volume.proofs.Files.{files_marked, marked_iags}
use Rattle.jfs_volume.proofs.PartlyPut.{partly_put}
use Rattle.jfs_volume.proofs.PuttingAll.{IsStoreOf, data_moves, data_stops}
use Rattle.jfs_volume.specs.Text.{text_in}
use Rattle.jfs_volume.proofs.Stand.{image-same, length-image}
use Rattle.jfs_volume.proofs.Editing.{image-edited, last-touched, or-none}
use Rattle.jfs_volume.proofs.Taken.{map_made_is, runs_length}
use Rattle.jfs_volume.proofs.Texts.{text_made}
use Rattle.jfs_volume.proofs.Entering.{enters_moves, stays_moves}
use Rattle.jfs_volume.proofs.volume.Volume.enter.Goals as goal

pub returns-in-Err-Memory-clause-appends : goal.returns-in-Err-Memory-clause-appends
returns-in-Err-Memory-clause-appends g c =
    let old = c.self.inside in
    let new = c.make_ready.new.cache in
    let d = g.D.Disk in
    let r = c.make_ready.ensures in
    rw (← c.self.view_is) (λ list same draft may now seen asked told crashes half s.
    rw same
    (stays_moves seen asked c.args.tx.now _ _ half s
    (record { parts = rw (r.blocks, r.dirty, r.parts.0, r.parts.1, r.same.0, r.same.1, r.same.2) refl; map = record { states = refl; agsize = refl } })
    (λ t. ap (λ (b : ℕ). image_in b (d.image new.disk) new.kept) r.blocks ∙ image-same old.cache.blocks (d.image old.cache.disk) (d.image new.disk) old.cache.kept new.kept (r.shown (told t)))
    (λ t. r.disk.image (told t))
    (λ t k. r.disk.states (crashes k))))

pub returns-in-Err-Read-clause-appends : goal.returns-in-Err-Read-clause-appends
returns-in-Err-Read-clause-appends g c =
    let old = c.self.inside in
    let new = c.make_ready.new.cache in
    let d = g.D.Disk in
    let r = c.make_ready.ensures in
    rw (← c.self.view_is) (λ list same draft may now seen asked told crashes half s.
    rw same
    (stays_moves seen asked c.args.tx.now _ _ half s
    (record { parts = rw (r.blocks, r.dirty, r.parts.0, r.parts.1, r.same.0, r.same.1, r.same.2) refl; map = record { states = refl; agsize = refl } })
    (λ t. ap (λ (b : ℕ). image_in b (d.image new.disk) new.kept) r.blocks ∙ image-same old.cache.blocks (d.image old.cache.disk) (d.image new.disk) old.cache.kept new.kept (r.shown (told t)))
    (λ t. r.disk.image (told t))
    (λ t k. r.disk.states (crashes k))))

pub invariant_of-self-2 : goal.invariant_of-self-2
invariant_of-self-2 g c =
    let i = c.self.invariant in
    let r = c.make_ready.ensures in
    let pages = rw (← c.self.view_is) at c.requires.runs.pages in
    let place : c.add.new.text.place ≡ c.self.inside.text.place = ap (λ (t : Text). t.place) (c.add.ensures.text) ∙ ap (λ (t : Text). t.place) r.same.0 in (
      λ n. rw (c.edit.ensures.dirty n, c.put_all.ensures.dirty, r.dirty) (last-touched _ n (c.self.inside.appended + 1) c.self.inside.appended (dirty_of (dirty_in c.self.inside.cache.kept) n) (i.0 n) (omega arith)),
      i.1,
      omega (arith, i.2),
      ap (λ (t : Text). t.last) c.add.ensures.text ∙ (rw (← c.self.view_is) at c.requires.runs.last),
      omega (arith, i.4, place),
      λ e. absurd (omega (arith, e, i.2)),
      rw c.take_runs.ensures (between_entered c.self.inside.told c.self.inside.appended c.args.draft.now.taken c.args.draft.now.freed c.self.inside.maps.blocks (omega (arith, i.1, i.2)) i.6),
      rw c.mark_files.ensures (files_marked c.self.inside.cache.blocks c.edit.new.self.blocks (length c.self.inside.maps.blocks.states) (length c.take_runs.new.blocks.states) c.self.inside.maps.inodes.iags c.mark.new.inodes.iags
          c.args.draft.now.taken c.args.draft.now.freed c.args.marks c.self.inside.files
          (c.edit.ensures.disk.1 ∙ c.put_all.ensures.parts.0 ∙ r.blocks)
          (ap (λ (m : Blocks). length m.states) c.take_runs.ensures ∙ runs_length c.args.draft.now.freed c.args.draft.now.taken (c.self.inside.appended + 1) c.self.inside.maps.blocks)
          (marked_iags c.self.inside.maps.inodes c.args.marks c.mark.new.inodes c.mark.ensures) i.7),
      omega (arith, i.8),
      rw (c.add.ensures.pages, r.same.1, pages) (later_entered c.self.inside.forgotten c.self.inside.appended c.self.inside.freed.items c.args.tx.now i.8 i.9),
    )

pub returns-clause-adds : goal.returns-clause-adds
returns-clause-adds g c =
    let old = c.self.inside in
    let r = c.make_ready.ensures in
    let put = c.put_all.ensures in
    let n = old.appended + 1 in
    let runs = c.requires.runs in
    rw (← c.self.view_is) (λ list same draft.
    let text = c.add.ensures.text ∙ text_made n list (text_in c.make_ready.new.text) (text_in old.text) c.args.draft.now.text.bytes.items c.args.draft.now.text.ends.items c.args.draft.now.text.last r.same.0 draft.bytes draft.ends draft.last in (
      record {
        parts = rw (c.edit.ensures.disk.1, c.edit.ensures.disk.0, put.parts.0, put.parts.1, put.parts.2, r.blocks, r.parts.0, r.parts.1, text, c.add.ensures.pages, r.same.1, draft.pages, c.add.ensures.entries, r.same.2, c.mark_files.ensures, draft.taken, draft.freed) refl;
        dirty = λ q. rw same (c.edit.ensures.dirty q
            ∙ ap (λ (b : Bool). touched_by b q n (dirty_of (dirty_in c.put_all.new.cache.kept) q)) (or-none (touches_tx q c.args.tx.now))
            ∙ ap (λ (dirty : List Dirty). touched_by (touches_tx q c.args.tx.now) q n (dirty_of dirty q)) (put.dirty ∙ r.dirty));
        map = rw (same, c.take_runs.ensures, runs.taken, runs.freed) (map_made_is n c.args.tx.now old.maps.blocks);
        inodes = c.mark.ensures;
      },
      refl,
    ))

pub returns-clause-appends : goal.returns-clause-appends
returns-clause-appends g c list same draft may now seen asked told crashes half s =
    let old = c.self.inside in
    let new = c.edit.new.self in
    let put = c.put_all.new.cache in
    let mid = c.make_ready.new.cache in
    let d = g.D.Disk in
    let e = c.edit.ensures in
    let r = c.make_ready.ensures in
    let tx = c.args.tx.now in
    let contents = c.args.contents.now in
    let p = c.args.self.now in
    let adds = returns-clause-adds g c list same draft in
    let store = store_of d put in
    let between = record p { view = store.view; disk = store.disk; past = store.past } in
    let start = subst (λ (edits : List Edit). StandsFor seen asked (unreserved edits p) half) (sym same) s in
    let may_now = subst (λ (edits : List Edit). IsWritable contents (unreserved edits p)) (sym same) may in
    let reserved = subst (λ (edits : List Edit). AreReserved p.map (taken_in edits)) (sym same) c.requires.reserved in
    let first : IsStoreOf seen asked (store_of d mid) (unreserved (tx_of list) p) = rw (← c.self.view_is) (record {
      view = λ t. ap (λ (b : ℕ). image_in b (d.image mid.disk) mid.kept) r.blocks ∙ image-same old.cache.blocks (d.image old.cache.disk) (d.image mid.disk) old.cache.kept mid.kept (r.shown (told t));
      disk = λ t. r.disk.image (told t);
      past = λ t k. r.disk.states (crashes k);
    }) in
    let whole : seen ≡ true → p.blocks ≤ length p.disk = rw (← c.self.view_is) (λ t. omega (arith, old.cache.place, (g.met.D.Disk.has_pages old.cache.disk (told t)).number)) in
    let dirty : dirty_in mid.kept ≡ p.dirty = rw (← c.self.view_is) r.dirty in
    let puts = data_moves seen asked told crashes contents (store_of d mid) store (unreserved (tx_of list) p) (unreserved (tx_of list) between) half start c.requires.running c.requires.contents may_now whole refl first
    (record { view = λ t. refl; disk = λ t. refl; past = λ t k. refl }) (rw dirty at (c.in-Ok-put_all.ensures.puts)) in
    let enter = enters_moves seen asked c.args.entry now list c.args.marks between _ (after half (writes contents)) puts.stands c.requires.running reserved
    (λ m t. c.requires.within m (subst (λ (edits : List Edit). touches_tx m edits ≡ true) same t))
    (record { parts = adds.0.parts; dirty = adds.0.dirty; map = adds.0.map; inodes = adds.0.inodes })
    (rw same (record {
      view = λ t. ap (λ (b : ℕ). image_in b (d.image new.disk) new.kept) e.disk.1 ∙ image-edited put.blocks (d.image put.disk) (d.image new.disk) put.kept new.kept tx (λ q w. e.pages (told t) q w);
      disk = λ t. ap d.image e.disk.0;
      past = λ t k. ap d.past e.disk.0;
    })) in (
      join seen asked (unreserved (tx_of list) p) (unreserved (tx_of list) between) _ half (writes contents) (Enters (entered c.args.entry now list _ (after half (writes contents))) ∷ []) puts enter,
      omega (arith, adds.1, s.appended),
    )

pub returns-in-Err-clause-appends : goal.returns-in-Err-clause-appends
returns-in-Err-clause-appends g c list same draft may now seen asked told crashes half s =
    let old = c.self.inside in
    let put = c.put_all.new.cache in
    let mid = c.make_ready.new.cache in
    let d = g.D.Disk in
    let w = c.put_all.ensures in
    let r = c.make_ready.ensures in
    let contents = c.args.contents.now in
    let p = c.args.self.now in
    let start = subst (λ (edits : List Edit). StandsFor seen asked (unreserved edits p) half) (sym same) s in
    let may_now = subst (λ (edits : List Edit). IsWritable contents (unreserved edits p)) (sym same) may in
    let first : IsStoreOf seen asked (store_of d mid) (unreserved (tx_of list) p) = rw (← c.self.view_is) (record {
      view = λ t. ap (λ (b : ℕ). image_in b (d.image mid.disk) mid.kept) r.blocks ∙ image-same old.cache.blocks (d.image old.cache.disk) (d.image mid.disk) old.cache.kept mid.kept (r.shown (told t));
      disk = λ t. r.disk.image (told t);
      past = λ t k. r.disk.states (crashes k);
    }) in
    let whole : seen ≡ true → (p.blocks ≤ length p.disk) × (length p.view ≡ p.blocks) = rw (← c.self.view_is) (λ t. (
      omega (arith, old.cache.place, (g.met.D.Disk.has_pages old.cache.disk (told t)).number),
      length-image old.cache.blocks (d.image old.cache.disk) old.cache.kept,
    )) in
    let dirty : dirty_in mid.kept ≡ p.dirty = rw (← c.self.view_is) r.dirty in
    data_stops seen asked told crashes contents (store_of d mid) (store_of d put) (unreserved (tx_of list) p) (unreserved (tx_of list) c.halt.new.self) half c.in-Err.fault start c.requires.running c.requires.contents may_now whole
    (rw c.halt.ensures.halted (rw (← c.self.view_is) (rw (w.parts.0, w.parts.1, w.parts.2, w.dirty, r.blocks, r.dirty, r.parts.0, r.parts.1, r.same.0, r.same.1, r.same.2) refl)))
    (rw c.halt.ensures.halted (rw (← c.self.view_is) refl))
    first
    (rw c.halt.ensures.halted (refl, refl, refl))
    (rw dirty at c.in-Err.ensures.puts)

pub returns-in-Err-clause-shows : goal.returns-in-Err-clause-shows
returns-in-Err-clause-shows g c told clean =
    let old = c.self.inside in
    let put = c.put_all.new.cache in
    let mid = c.make_ready.new.cache in
    let d = g.D.Disk in
    let r = c.make_ready.ensures in
    let contents = c.args.contents.now in
    let p = c.args.self.now in
    let dirty : dirty_in mid.kept ≡ p.dirty = rw (← c.self.view_is) r.dirty in
    let before : image_in mid.blocks (d.image mid.disk) mid.kept ≡ p.view = rw (← c.self.view_is) (ap (λ (b : ℕ). image_in b (d.image mid.disk) mid.kept) r.blocks ∙ image-same old.cache.blocks (d.image old.cache.disk) (d.image mid.disk) old.cache.kept mid.kept (r.shown told)) in
    let fits : p.blocks ≤ length (image_in mid.blocks (d.image mid.disk) mid.kept) = rw (← c.self.view_is) (omega (arith, r.blocks, length-image mid.blocks (d.image mid.disk) mid.kept)) in
    let on_disk : p.blocks ≤ length (d.image mid.disk) = rw (← c.self.view_is) (omega (arith, old.cache.place, (g.met.D.Disk.has_pages old.cache.disk told).number, ap length (r.disk.image told))) in
    λ once. rw c.halt.ensures.halted
    (subst (λ (image : Image). IsPartlyPut contents image (image_in put.blocks (d.image put.disk) put.kept)) before
    (partly_put told contents p.dirty (store_of d mid) (store_of d put) p.blocks c.requires.contents fits on_disk clean (rw dirty at c.in-Err.ensures.puts) once))

pub returns-clause-shows : goal.returns-clause-shows
returns-clause-shows g c told clean =
    let old = c.self.inside in
    let new = c.edit.new.self in
    let put = c.put_all.new.cache in
    let mid = c.make_ready.new.cache in
    let d = g.D.Disk in
    let e = c.edit.ensures in
    let r = c.make_ready.ensures in
    let tx = c.args.tx.now in
    let contents = c.args.contents.now in
    let p = c.args.self.now in
    let dirty : dirty_in mid.kept ≡ p.dirty = rw (← c.self.view_is) r.dirty in
    let before : image_in mid.blocks (d.image mid.disk) mid.kept ≡ p.view = rw (← c.self.view_is) (ap (λ (b : ℕ). image_in b (d.image mid.disk) mid.kept) r.blocks ∙ image-same old.cache.blocks (d.image old.cache.disk) (d.image mid.disk) old.cache.kept mid.kept (r.shown told)) in
    ap (λ (b : ℕ). image_in b (d.image new.disk) new.kept) e.disk.1 ∙ image-edited put.blocks (d.image put.disk) (d.image new.disk) put.kept new.kept tx (λ q w. e.pages told q w)
    ∙ ap (pages_after 0 tx) (ArePut.view (rw dirty at c.in-Ok-put_all.ensures.puts) told clean ∙ ap (put_pages contents) before)
