-- Pages that go home, and pages that are dropped.
use Rattle.std.proofs.Common.{◌≡◌, ◌<◌, ◌≤◌, ◌⊎◌, ◌==◌, ℕ, suc, Bool, true, false, if◌then◌else◌, List, [], ◌∷◌, ◌++◌, length, map, set, get_or, zero, Option, Some, None, IsSome, refl, sym, ap, ◌∙◌, inl, inr, arith}
use Rattle.std.proofs.lemmas.Bool.{cases_eq, eq-eqb, ne_eqb, eqb-true}
use Rattle.std.proofs.lemmas.List.{append-nil, length-set, length-map, get_or-set_same, get_or-set_other, get_or-map, map-set, ext_get_or}
use Rattle.jfs_disk.specs.Image.{Image, page_of}
use Rattle.jfs_disk.specs.Crash.{DiskState, no_page, last_of, seen_of, torn, written, failed, settled, TearsPage, LeavesTorn}
use Rattle.jfs_disk.specs.declared.disk.Fault.{Fault}
use Rattle.jfs_disk.specs.Seen.{seen_of-failed}
use Rattle.jfs_disk.proofs.Outcomes.{last_of-push}
use Rattle.jfs_pages.specs.declared.dirty.Dirty.{Dirty}
use Rattle.jfs_pages.specs.Dirty.{dirty_of, last_of as last_dirty}
use Rattle.jfs_halves.specs.crash_core.specs.declared.block.Span.{Span}
use Rattle.jfs_halves.specs.crash_core.specs.Core.{Block, no_block}
use Rattle.jfs_halves.specs.crash_core.specs.Step.{halted_by, sent_home, failed_home, synced, EndsBy}
use Rattle.jfs_halves.specs.declared.freed.FreedPage.{FreedPage}
use Rattle.jfs_halves.specs.Half.{VolumeHalf, block_in, page_in, low_in, page_home, page_torn, page_dropped, all_synced}
use Rattle.jfs_halves.specs.Parts.{Parts, StandsFor, IsFreed, span_of}
use Rattle.jfs_halves.specs.Change.{GoesHome, Tears, Stops, Drops, Syncs, MayGoHome}
use Rattle.jfs_halves.specs.Moves.{Moves}
use Rattle.jfs_volume.specs.Home.{FailsAt}
use Rattle.jfs_volume.proofs.Stand.{one, low-home, low-torn, low-synced, block-set, span-if, span-same}

span-some : (d : Option Dirty) (block : Block) → span_of d ≡ block.dirty → IsSome d → IsSome block.dirty
span-some None block e some = absurd (cc)
span-some (Some d) block e some = rw (sym e) refl

span-ends : (told : ℕ) (d : Option Dirty) (block : Block) → span_of d ≡ block.dirty → last_dirty d ≤ told → EndsBy told block.dirty
span-ends told None block e h = rw (sym e) tt
span-ends told (Some d) block e h = rw (sym e) h

may_go : (half : VolumeHalf) (n : ℕ) (d : Option Dirty) → n < length half.blocks → span_of d ≡ (block_in half n).dirty → IsSome d → last_dirty d ≤ half.told → MayGoHome half n
may_go half n d within e some early = (within, span-some d (block_in half n) e some, span-ends half.told d (block_in half n) e early)

-- a page of the disk is set: so are its block's pages
pub seen-set : (old new : Image) (n : ℕ) (bytes : List ℕ) (blocks : List Block) (block : Block) → n < length blocks → n < length old → new ≡ set old n bytes → block.pages.seen ≡ bytes →
    ((p : ℕ) → p < length blocks → page_of old p ≡ (get_or blocks p no_block).pages.seen) → (p : ℕ) → p < length blocks → page_of new p ≡ (get_or (set blocks n block) p no_block).pages.seen
seen-set old new n bytes blocks block there inside is same each p h = ap (λ (image : Image). page_of image p) is ∙ at (cases_eq n p) ∙ ap (λ (b : Block). b.pages.seen) (sym (block-set blocks n p block there))
  where
    at : (n ≡ p) ⊎ ((n ≡ p) → ⊥) → page_of (set old n bytes) p ≡ (if n == p then block else get_or blocks p no_block).pages.seen
    at (inl e) = rw (eq-eqb n p e) (rw (sym e) (get_or-set_same old n bytes [] inside ∙ sym same))
    at (inr d) = rw (ne_eqb n p d) (get_or-set_other old n p bytes [] (λ e. d (sym e)) ∙ each p h)

-- ---- a page goes home

-- the parts after page n was written, where the cache gives what it gave
pub record IsSent (seen : Bool) (n : ℕ) (p q : Parts) : Type 0 where
  pub there : n < p.blocks
  pub inside : seen ≡ true → n < length p.disk
  pub parts : q ≡ record p { view = q.view; dirty = q.dirty; disk = q.disk; past = q.past; faults = q.faults; halted = q.halted }
  pub view : seen ≡ true → q.view ≡ p.view

abbrev dirty_part : Block → Option Span
dirty_part block = block.dirty

pub home_moves : (seen asked : Bool) (p q : Parts) (half : VolumeHalf) (n : ℕ) → StandsFor seen asked p half → IsSent seen n p q → q.halted ≡ p.halted → IsSome (dirty_of p.dirty n) →
    ((m : ℕ) → dirty_of q.dirty m ≡ (if n == m then None else dirty_of p.dirty m)) → last_dirty (dirty_of p.dirty n) ≤ p.told →
    (seen ≡ true → q.disk ≡ set p.disk n (page_of p.view n)) →
    (seen ≡ true → asked ≡ true → q.past ≡ p.past ++ written n (page_in half n) (last_of p.past) ∷ []) → Moves seen asked p q half (GoesHome n ∷ [])
home_moves seen asked p q half n s sent halts dirty cleaned early disk wrote =
    let states : seen ≡ true → asked ≡ true → q.past ≡ p.past ++ low_in (page_home n half) ∷ [] = λ t k.
    wrote t k ∙ ap (λ (state : DiskState). p.past ++ state ∷ []) (ap (λ (state : DiskState). written n (page_in half n) state) (s.low t k) ∙ sym (low-home half n)) in
    let within : n < length half.blocks = omega (arith, sent.there, s.number) in
    let block = sent_home (page_in half n) (block_in half n) in
    one seen asked p q half (GoesHome n)
    (may_go half n (dirty_of p.dirty n) within (s.dirty n) dirty (omega (arith, early, s.told)))
    (record {
      appended = ap (λ (r : Parts). r.appended) sent.parts ∙ s.appended;
      taken = ap (λ (r : Parts). r.taken) sent.parts ∙ s.taken;
      told = ap (λ (r : Parts). r.told) sent.parts ∙ s.told;
      points = ap (λ (r : Parts). r.points) sent.parts ∙ s.points;
      known = ap (λ (r : Parts). r.known) sent.parts ∙ s.known;
      number = length-set half.blocks n block ∙ s.number ∙ sym (ap (λ (r : Parts). r.blocks) sent.parts);
      halted = halts ∙ s.halted;
      dirty = λ m. ap span_of (cleaned m) ∙ span-if (n == m) (dirty_of p.dirty m) block (block_in half m) refl (s.dirty m) ∙ ap dirty_part (sym (block-set half.blocks n m block within));
      block_map = rw sent.parts s.block_map;
      inodes = ap (λ (r : Parts). r.inodes) sent.parts ∙ s.inodes;
      handed = s.handed;
      entries = ap (λ (r : Parts). r.entries) sent.parts ∙ s.entries;
      text = rw sent.parts s.text;
      freed = rw sent.parts s.freed;
      view = λ t. sent.view t ∙ s.view t;
      disk = λ t m h. seen-set p.disk q.disk n (page_in half n) half.blocks block within (sent.inside t) (disk t ∙ ap (λ (image : Image). set p.disk n (page_of image n)) (s.view t)) refl (s.disk t) m (omega (arith, h, length-set half.blocks n block));
      low = λ t k. ap last_of (states t k) ∙ last_of-push p.past (low_in (page_home n half));
    })
    states

-- ---- its write fails

torn_moves : (seen asked : Bool) (p q : Parts) (half : VolumeHalf) (n sectors : ℕ) (fault : Fault) → StandsFor seen asked p half → IsSent seen n p q → q.dirty ≡ p.dirty → q.halted ≡ halted_by fault p.halted →
    IsSome (dirty_of p.dirty n) → last_dirty (dirty_of p.dirty n) ≤ p.told → sectors ≤ 8 →
    (seen ≡ true → q.disk ≡ set p.disk n (torn sectors (page_in half n) (page_of p.disk n))) →
    (seen ≡ true → asked ≡ true → q.past ≡ p.past ++ failed n (page_in half n) sectors (last_of p.past) ∷ []) → Moves seen asked p q half (Tears n sectors fault ∷ [])
torn_moves seen asked p q half n sectors fault s sent stays halts dirty early few disk wrote =
    let states : seen ≡ true → asked ≡ true → q.past ≡ p.past ++ low_in (page_torn n sectors fault half) ∷ [] = λ t k.
    wrote t k ∙ ap (λ (state : DiskState). p.past ++ state ∷ []) (ap (λ (state : DiskState). failed n (page_in half n) sectors state) (s.low t k) ∙ sym (low-torn half n sectors fault)) in
    let within : n < length half.blocks = omega (arith, sent.there, s.number) in
    let block = failed_home (page_in half n) sectors (block_in half n) in
    let may = may_go half n (dirty_of p.dirty n) within (s.dirty n) dirty (omega (arith, early, s.told)) in
    one seen asked p q half (Tears n sectors fault) (few, may)
    (record {
      appended = ap (λ (r : Parts). r.appended) sent.parts ∙ s.appended;
      taken = ap (λ (r : Parts). r.taken) sent.parts ∙ s.taken;
      told = ap (λ (r : Parts). r.told) sent.parts ∙ s.told;
      points = ap (λ (r : Parts). r.points) sent.parts ∙ s.points;
      known = ap (λ (r : Parts). r.known) sent.parts ∙ s.known;
      number = length-set half.blocks n block ∙ s.number ∙ sym (ap (λ (r : Parts). r.blocks) sent.parts);
      halted = halts ∙ ap (halted_by fault) s.halted;
      dirty = λ m. ap (λ (d : List Dirty). span_of (dirty_of d m)) stays ∙ span-same (n == m) (dirty_of p.dirty m) block (block_in half m) (λ e. at m (cases_eq n m) e) (s.dirty m) ∙ ap dirty_part (sym (block-set half.blocks n m block within));
      block_map = rw sent.parts s.block_map;
      inodes = ap (λ (r : Parts). r.inodes) sent.parts ∙ s.inodes;
      handed = s.handed;
      entries = ap (λ (r : Parts). r.entries) sent.parts ∙ s.entries;
      text = rw sent.parts s.text;
      freed = rw sent.parts s.freed;
      view = λ t. sent.view t ∙ s.view t;
      disk = λ t m h. seen-set p.disk q.disk n (torn sectors (page_in half n) (page_of p.disk n)) half.blocks block within (sent.inside t) (disk t)
          (ap (λ (old : List ℕ). torn sectors (page_in half n) old) (sym (s.disk t n within))) (s.disk t) m (omega (arith, h, length-set half.blocks n block));
      low = λ t k. ap last_of (states t k) ∙ last_of-push p.past (low_in (page_torn n sectors fault half));
    })
    states
  where
    at : (m : ℕ) → (n ≡ m) ⊎ ((n ≡ m) → ⊥) → n == m ≡ true → (block_in half n).dirty ≡ (block_in half m).dirty
    at m (inl e) _ = ap (λ (k : ℕ). (block_in half k).dirty) e
    at m (inr d) e = absurd (d (eqb-true n m e))

-- the low part just stops, and is as it was as far as it is seen
stops_moves : (seen asked : Bool) (p q : Parts) (half : VolumeHalf) (n : ℕ) (fault : Fault) → StandsFor seen asked p half → IsSent seen n p q → q.dirty ≡ p.dirty → q.halted ≡ halted_by fault p.halted →
    (seen ≡ true → q.disk ≡ p.disk) → (seen ≡ true → asked ≡ true → q.past ≡ p.past) → Moves seen asked p q half (Stops fault ∷ [])
stops_moves seen asked p q half n fault s sent stays halts disk same =
    one seen asked p q half (Stops fault) tt
    (record {
      appended = ap (λ (r : Parts). r.appended) sent.parts ∙ s.appended;
      taken = ap (λ (r : Parts). r.taken) sent.parts ∙ s.taken;
      told = ap (λ (r : Parts). r.told) sent.parts ∙ s.told;
      points = ap (λ (r : Parts). r.points) sent.parts ∙ s.points;
      known = ap (λ (r : Parts). r.known) sent.parts ∙ s.known;
      number = s.number ∙ sym (ap (λ (r : Parts). r.blocks) sent.parts);
      halted = halts ∙ ap (halted_by fault) s.halted;
      dirty = λ m. ap (λ (d : List Dirty). span_of (dirty_of d m)) stays ∙ s.dirty m;
      block_map = rw sent.parts s.block_map;
      inodes = ap (λ (r : Parts). r.inodes) sent.parts ∙ s.inodes;
      handed = s.handed;
      entries = ap (λ (r : Parts). r.entries) sent.parts ∙ s.entries;
      text = rw sent.parts s.text;
      freed = rw sent.parts s.freed;
      view = λ t. sent.view t ∙ s.view t;
      disk = λ t m h. ap (λ (image : Image). page_of image m) (disk t) ∙ s.disk t m h;
      low = λ t k. ap last_of (same t k) ∙ s.low t k;
    })
    (λ t k. same t k ∙ sym (append-nil p.past))

-- Where the pages are seen, so is how many sectors of the failed write are read; where crashes are asked for too, so is what it left pending.
pub fails_moves : (seen asked : Bool) (p q : Parts) (half : VolumeHalf) (n : ℕ) (fault : Fault) → StandsFor seen asked p half → IsSent seen n p q → q.dirty ≡ p.dirty → q.halted ≡ halted_by fault p.halted →
    IsSome (dirty_of p.dirty n) → last_dirty (dirty_of p.dirty n) ≤ p.told → (seen ≡ true → TearsPage n (page_of p.view n) p.disk q.disk) → (asked ≡ true → LeavesTorn n (page_of p.view n) p.past q.past) →
    (asked ≡ true → p.disk ≡ seen_of (last_of p.past)) → (asked ≡ true → q.disk ≡ seen_of (last_of q.past)) → FailsAt seen asked n fault p q half
fails_moves false asked p q half n fault s sent stays halts dirty early reads leaves before now = inr (stops_moves false asked p q half n fault s sent stays halts (λ t. absurd (cc)) (λ t k. absurd (cc)))
fails_moves true false p q half n fault s sent stays halts dirty early reads leaves before now =
    let w = reads refl in
    inl (
      w.0,
      torn_moves true false p q half n w.0 fault s sent stays halts dirty early w.1
          (λ t. w.2 ∙ ap (λ (image : Image). set p.disk n (torn w.0 (page_of image n) (page_of p.disk n))) (s.view t)) (λ t k. absurd (cc)),
    )
fails_moves true true p q half n fault s sent stays halts dirty early reads leaves before now = at (leaves refl)
  where
    page : page_of p.view n ≡ page_in half n
    page = ap (λ (image : Image). page_of image n) (s.view refl)

    at : LeavesTorn n (page_of p.view n) p.past q.past → FailsAt true true n fault p q half
    at (inl same) = inr (stops_moves true true p q half n fault s sent stays halts (λ t. now refl ∙ ap (λ (past : List DiskState). seen_of (last_of past)) same ∙ sym (before refl)) (λ t k. same))
    at (inr w) =
        let wrote : q.past ≡ p.past ++ failed n (page_in half n) w.0 (last_of p.past) ∷ [] = w.2 ∙ ap (λ (bytes : List ℕ). p.past ++ failed n bytes w.0 (last_of p.past) ∷ []) page in
        inl (
          w.0,
          torn_moves true true p q half n w.0 fault s sent stays halts dirty early w.1
              (λ t. now refl ∙ ap (λ (past : List DiskState). seen_of (last_of past)) wrote ∙ ap seen_of (last_of-push p.past (failed n (page_in half n) w.0 (last_of p.past)))
              ∙ seen_of-failed n (page_in half n) w.0 (last_of p.past) ∙ ap (λ (image : Image). set image n (torn w.0 (page_in half n) (page_of image n))) (sym (before refl)))
              (λ t k. wrote),
        )

-- ---- a sync

block-synced : (blocks : List Block) (m : ℕ) → ((get_or (map synced blocks) m no_block).dirty ≡ (get_or blocks m no_block).dirty) × ((get_or (map synced blocks) m no_block).pages.seen ≡ (get_or blocks m no_block).pages.seen)
block-synced [] m = (refl, refl)
block-synced (block ∷ blocks) zero = (refl, refl)
block-synced (block ∷ blocks) (suc m) = block-synced blocks m

pub syncs_moves : (seen asked : Bool) (p q : Parts) (half : VolumeHalf) → StandsFor seen asked p half → q ≡ record p { view = q.view; disk = q.disk; past = q.past; faults = q.faults } → (seen ≡ true → q.view ≡ p.view) → (seen ≡ true → q.disk ≡ p.disk)
    → (seen ≡ true → asked ≡ true → q.past ≡ p.past ++ settled (last_of p.past) ∷ []) → Moves seen asked p q half (Syncs ∷ [])
syncs_moves seen asked p q half s parts view disk wrote =
    let states : seen ≡ true → asked ≡ true → q.past ≡ p.past ++ low_in (all_synced half) ∷ [] = λ t k.
    wrote t k ∙ ap (λ (state : DiskState). p.past ++ state ∷ []) (ap settled (s.low t k) ∙ sym (low-synced half.blocks)) in
    one seen asked p q half Syncs tt
    (record {
      appended = ap (λ (r : Parts). r.appended) parts ∙ s.appended;
      taken = ap (λ (r : Parts). r.taken) parts ∙ s.taken;
      told = ap (λ (r : Parts). r.told) parts ∙ s.told;
      points = ap (λ (r : Parts). r.points) parts ∙ s.points;
      known = ap (λ (r : Parts). r.known) parts ∙ s.known;
      number = length-map half.blocks synced ∙ s.number ∙ sym (ap (λ (r : Parts). r.blocks) parts);
      halted = ap (λ (r : Parts). r.halted) parts ∙ s.halted;
      dirty = λ m. ap (λ (r : Parts). span_of (dirty_of r.dirty m)) parts ∙ s.dirty m ∙ sym (block-synced half.blocks m).0;
      block_map = rw parts s.block_map;
      inodes = ap (λ (r : Parts). r.inodes) parts ∙ s.inodes;
      handed = s.handed;
      entries = ap (λ (r : Parts). r.entries) parts ∙ s.entries;
      text = rw parts s.text;
      freed = rw parts s.freed;
      view = λ t. view t ∙ s.view t;
      disk = λ t m h. ap (λ (image : Image). page_of image m) (disk t) ∙ s.disk t m (omega (arith, h, length-map half.blocks synced)) ∙ sym (block-synced half.blocks m).1;
      low = λ t k. ap last_of (states t k) ∙ last_of-push p.past (low_in (all_synced half));
    })
    states

-- the sync failed
pub sync_stops : (seen asked : Bool) (p q : Parts) (half : VolumeHalf) (fault : Fault) → StandsFor seen asked p half → q ≡ record p { view = q.view; disk = q.disk; past = q.past; faults = q.faults; halted = halted_by fault p.halted } → (seen ≡ true → q.view ≡ p.view)
    → (seen ≡ true → q.disk ≡ p.disk) → (seen ≡ true → asked ≡ true → q.past ≡ p.past) → Moves seen asked p q half (Stops fault ∷ [])
sync_stops seen asked p q half fault s parts view disk same =
    one seen asked p q half (Stops fault) tt
    (record {
      appended = ap (λ (r : Parts). r.appended) parts ∙ s.appended;
      taken = ap (λ (r : Parts). r.taken) parts ∙ s.taken;
      told = ap (λ (r : Parts). r.told) parts ∙ s.told;
      points = ap (λ (r : Parts). r.points) parts ∙ s.points;
      known = ap (λ (r : Parts). r.known) parts ∙ s.known;
      number = s.number ∙ sym (ap (λ (r : Parts). r.blocks) parts);
      halted = ap (λ (r : Parts). r.halted) parts ∙ ap (halted_by fault) s.halted;
      dirty = λ m. ap (λ (r : Parts). span_of (dirty_of r.dirty m)) parts ∙ s.dirty m;
      block_map = rw parts s.block_map;
      inodes = ap (λ (r : Parts). r.inodes) parts ∙ s.inodes;
      handed = s.handed;
      entries = ap (λ (r : Parts). r.entries) parts ∙ s.entries;
      text = rw parts s.text;
      freed = rw parts s.freed;
      view = λ t. view t ∙ s.view t;
      disk = λ t m h. ap (λ (image : Image). page_of image m) (disk t) ∙ s.disk t m h;
      low = λ t k. ap last_of (same t k) ∙ s.low t k;
    })
    (λ t k. same t k ∙ sym (append-nil p.past))

-- ---- a page is dropped

low-dropped : (half : VolumeHalf) (n : ℕ) → n < length half.blocks → low_in (page_dropped n half) ≡ low_in half
low-dropped half n h =
    map-set (λ (b : Block). b.pages) half.blocks n (record (block_in half n) { dirty = None })
    ∙ ext_get_or no_page (set (low_in half) n (block_in half n).pages) (low_in half) (length-set (low_in half) n (block_in half n).pages) (λ m k. at m k (cases_eq n m))
  where
    at : (m : ℕ) → m < length (set (low_in half) n (block_in half n).pages) → (n ≡ m) ⊎ ((n ≡ m) → ⊥) → get_or (set (low_in half) n (block_in half n).pages) m no_page ≡ get_or (low_in half) m no_page
    at m k (inl e) = rw (sym e) (get_or-set_same (low_in half) n (block_in half n).pages no_page (omega (arith, h, length-map half.blocks (λ (b : Block). b.pages))) ∙ sym (get_or-map (λ (b : Block). b.pages) half.blocks n no_block no_page h))
    at m k (inr d) = get_or-set_other (low_in half) n m (block_in half n).pages no_page (λ e. d (sym e))

dropped-seen : (half : VolumeHalf) (n m : ℕ) → n < length half.blocks → (block_in (page_dropped n half) m).pages.seen ≡ (block_in half m).pages.seen
dropped-seen half n m h = ap (λ (b : Block). b.pages.seen) (block-set half.blocks n m (record (block_in half n) { dirty = None }) h) ∙ at (cases_eq n m)
  where
    at : (n ≡ m) ⊎ ((n ≡ m) → ⊥) → (if n == m then record (block_in half n) { dirty = None } else block_in half m).pages.seen ≡ (block_in half m).pages.seen
    at (inl e) = rw (eq-eqb n m e) (ap (λ (k : ℕ). (block_in half k).pages.seen) e)
    at (inr d) = rw (ne_eqb n m d) refl

pub drops_moves : (seen asked : Bool) (p q : Parts) (half : VolumeHalf) (f : FreedPage) → StandsFor seen asked p half → IsFreed half.history f → f.by_entry ≤ half.told → f.page < p.blocks → (seen ≡ true → f.page < length p.disk) →
    q ≡ record p { view = q.view; dirty = q.dirty } → IsSome (dirty_of p.dirty f.page) → last_dirty (dirty_of p.dirty f.page) ≤ f.by_entry →
    ((m : ℕ) → dirty_of q.dirty m ≡ (if f.page == m then None else dirty_of p.dirty m)) → (seen ≡ true → q.view ≡ set p.view f.page (page_of p.disk f.page)) → Moves seen asked p q half (Drops f.page ∷ [])
drops_moves seen asked p q half f s freed early there inside parts dirty last cleaned view =
    let n = f.page in
    let within : n < length half.blocks = omega (arith, there, s.number) in
    let block = record (block_in half n) { dirty = None } in
    one seen asked p q half (Drops n)
    (record {
      there = within;
      dirty = span-some (dirty_of p.dirty n) (block_in half n) (s.dirty n) dirty;
      before = freed.0;
      by_entry = freed.1;
      is = freed.3;
      told = omega (arith, freed.2, early);
      frees = freed.4;
      last = span-ends (suc freed.0) (dirty_of p.dirty n) (block_in half n) (s.dirty n) (omega (arith, last, freed.2));
    })
    (record {
      appended = ap (λ (r : Parts). r.appended) parts ∙ s.appended;
      taken = ap (λ (r : Parts). r.taken) parts ∙ s.taken;
      told = ap (λ (r : Parts). r.told) parts ∙ s.told;
      points = ap (λ (r : Parts). r.points) parts ∙ s.points;
      known = ap (λ (r : Parts). r.known) parts ∙ s.known;
      number = length-set half.blocks n block ∙ s.number ∙ sym (ap (λ (r : Parts). r.blocks) parts);
      halted = ap (λ (r : Parts). r.halted) parts ∙ s.halted;
      dirty = λ m. ap span_of (cleaned m) ∙ span-if (n == m) (dirty_of p.dirty m) block (block_in half m) refl (s.dirty m) ∙ ap dirty_part (sym (block-set half.blocks n m block within));
      block_map = rw parts s.block_map;
      inodes = ap (λ (r : Parts). r.inodes) parts ∙ s.inodes;
      handed = s.handed;
      entries = ap (λ (r : Parts). r.entries) parts ∙ s.entries;
      text = rw parts s.text;
      freed = rw parts s.freed;
      view = λ t. view t ∙ ap (λ (image : Image). set image n (page_of p.disk n)) (s.view t) ∙ ap (λ (bytes : List ℕ). set half.shown.pages n bytes) (s.disk t n within);
      disk = λ t m h. ap (λ (r : Parts). page_of r.disk m) parts ∙ s.disk t m (omega (arith, h, length-set half.blocks n block)) ∙ sym (dropped-seen half n m within);
      low = λ t k. ap (λ (r : Parts). last_of r.past) parts ∙ s.low t k ∙ sym (low-dropped half n within);
    })
    (λ t k. ap (λ (r : Parts). r.past) parts ∙ sym (append-nil p.past))
