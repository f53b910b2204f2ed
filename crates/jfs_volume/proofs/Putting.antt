-- Blocks of files that are written one after the other.
use Rattle.std.proofs.Common.{◌≡◌, ◌<◌, ◌≤◌, ◌⊎◌, ◌==◌, ◌||◌, ◌++◌, ◌∷◌, [], ℕ, Bool, true, List, length, set, drop, slice_get, zero, suc, Some, add-one, drop-cons, ◌+◌, None, Result, Ok, Err, OnOk, refl, sym, ap, ◌∙◌, inl, inr, subst, arith, ◌≢◌}
use Rattle.std.proofs.lemmas.Bool.{cases_eq, eq-eqb, or_right}
use Rattle.std.proofs.lemmas.List.{length-set, ext_get_or, get_or-set_same, get_or-set_other}
use Rattle.std.proofs.lemmas.Option.{slice_get_within, get_or_from_slice_get}
use Rattle.jfs_disk.specs.Image.{Image, page_of}
use Rattle.jfs_disk.specs.Crash.{DiskState, last_of, written, seen_of}
use Rattle.jfs_disk.specs.declared.disk.Fault.{Fault}
use Rattle.jfs_marks.specs.data_steps.specs.After.{is_put, LieWithin}
use Rattle.jfs_marks.specs.data_steps.specs.declared.pages.DataPage.{DataPage}
use Rattle.jfs_pages.specs.declared.dirty.Dirty.{Dirty}
use Rattle.jfs_pages.specs.declared.kept.Kept.{Kept}
use Rattle.jfs_pages.specs.Dirty.{dirty_of}
use Rattle.jfs_pages.specs.Kept.{shown, image_in}
use Rattle.jfs_pages.specs.Device.{Puts}
use Rattle.jfs_halves.specs.Half.{VolumeHalf, data_written}
use Rattle.jfs_halves.specs.Parts.{Parts, StandsFor}
use Rattle.jfs_halves.specs.Change.{Writes}
use Rattle.jfs_halves.specs.Moves.{Moves}
use Rattle.jfs_halves.proofs.Joined.{join}
use Rattle.jfs_volume.specs.Append.{IsWritable}
use Rattle.jfs_volume.specs.Data.{Store, AreClean, put_pages, states_written, IsPut, IsTorn, ArePut, AreTorn, PutsOne, PutsAll}
use Rattle.jfs_volume.specs.Written.{writes}
use Rattle.jfs_volume.proofs.Stand.{none, image-at, length-image}
use Rattle.jfs_volume.proofs.Writing.{IsOpen, write_moves}

-- one page of a cache is another one
pub image-set : (blocks : ℕ) (d e : Image) (k l : Kept) (n : ℕ) (bytes : List ℕ) → n < blocks → ((q : ℕ) → (n ≡ q → ⊥) → shown e l q ≡ shown d k q) → shown e l n ≡ bytes → image_in blocks e l ≡ set (image_in blocks d k) n bytes
image-set blocks d e k l n bytes h others this = ext_get_or [] (image_in blocks e l) (set (image_in blocks d k) n bytes)
    (length-image blocks e l ∙ sym (length-set (image_in blocks d k) n bytes ∙ length-image blocks d k))
    (λ p i. let within : p < blocks = omega (arith, i, length-image blocks e l) in image-at blocks e l p within ∙ at p within (cases_eq n p))
  where
    at : (p : ℕ) → p < blocks → (n ≡ p) ⊎ ((n ≡ p) → ⊥) → shown e l p ≡ page_of (set (image_in blocks d k) n bytes) p
    at p within (inl f) = rw (sym f) (this ∙ sym (get_or-set_same (image_in blocks d k) n bytes [] (omega (arith, h, length-image blocks d k))))
    at p within (inr f) = others p f ∙ sym (get_or-set_other (image_in blocks d k) n p bytes [] (λ x. f (sym x)) ∙ image-at blocks d k p within)

-- ---- one, and then the others

clean-head : (d : DataPage) (ds : List DataPage) (dirty : List Dirty) → AreClean (d ∷ ds) dirty → dirty_of dirty d.block ≡ None
clean-head d ds dirty clean = clean d.block (ap (λ (b : Bool). b || is_put d.block ds) (eq-eqb d.block d.block refl))

clean-tail : (d : DataPage) (ds : List DataPage) (dirty : List Dirty) → AreClean (d ∷ ds) dirty → AreClean ds dirty
clean-tail d ds dirty clean b put = clean b (or_right (d.block == b) (is_put b ds) put)

put-more : {tells crashes : Type 0} (d : DataPage) (ds : List DataPage) (dirty : List Dirty) (old mid new : Store) → IsPut tells crashes d dirty old mid → ArePut tells crashes ds dirty mid new → ArePut tells crashes (d ∷ ds) dirty old new
put-more d ds dirty old mid new one rest = record {
  view = λ t clean. rest.view t (clean-tail d ds dirty clean) ∙ ap (put_pages ds) (one.view t (clean-head d ds dirty clean));
  disk = λ t. rest.disk t ∙ ap (put_pages ds) (one.disk t);
  past = λ t. rest.past t ∙ ap (states_written ds) (one.past t);
}

pub puts-more : {tells crashes : Type 0} (d : DataPage) (ds : List DataPage) (dirty : List Dirty) (old mid new : Store) (result : Result (Unit {0}) Fault) → IsPut tells crashes d dirty old mid → PutsAll tells crashes ds dirty mid new result →
    PutsAll tells crashes (d ∷ ds) dirty old new result
puts-more d ds dirty old mid new (Ok done) one rest = put-more d ds dirty old mid new one rest
puts-more d ds dirty old mid new (Err fault) one rest = record {
  front = d ∷ rest.front;
  stopped = rest.stopped;
  rest = rest.rest;
  split = ap (λ (es : List DataPage). d ∷ es) rest.split;
  mid = rest.mid;
  put = put-more d rest.front dirty old mid rest.mid one rest.put;
  torn = rest.torn;
}

pub none-put : {tells crashes : Type 0} (dirty : List Dirty) (old : Store) → ArePut tells crashes [] dirty old old
none-put dirty old = record { view = λ t clean. refl; disk = λ t. refl; past = λ t. refl }

pub torn-first : {tells crashes : Type 0} (d : DataPage) (ds : List DataPage) (dirty : List Dirty) (old new : Store) → IsTorn tells crashes d dirty old new → AreTorn tells crashes (d ∷ ds) dirty old new
torn-first d ds dirty old new torn = record { front = []; stopped = d; rest = ds; split = refl; mid = old; put = none-put dirty old; torn = torn }

-- ---- as changes of a half

-- the parts with what a cache gives now
abbrev pub with_store : Store → ℕ → Parts → Parts
with_store store faults p = record p { view = store.view; disk = store.disk; past = store.past; faults = faults }

writable-head : (d : DataPage) (ds : List DataPage) (p : Parts) → p.halted ≡ None → LieWithin p.blocks (d ∷ ds) → IsWritable (d ∷ ds) p → IsOpen d.block p
writable-head d ds p runs lie may =
    let w = may d.block (ap (λ (b : Bool). b || is_put d.block ds) (eq-eqb d.block d.block refl)) in
    record { there = lie.0; clean = w.0; not_busy = w.1; runs = runs }

pub puts_moves : (seen asked : Bool) (contents : List DataPage) (p q : Parts) (half : VolumeHalf) → StandsFor seen asked p half → p.halted ≡ None → LieWithin p.blocks contents → IsWritable contents p →
    (seen ≡ true → p.blocks ≤ length p.disk) → q ≡ record p { view = q.view; disk = q.disk; past = q.past; faults = q.faults } →
    (seen ≡ true → q.view ≡ put_pages contents p.view) → (seen ≡ true → q.disk ≡ put_pages contents p.disk) → (seen ≡ true → asked ≡ true → q.past ≡ states_written contents p.past) → Moves seen asked p q half (writes contents)
puts_moves seen asked [] p q half s runs lie may whole parts view disk past =
    none seen asked p q half
    (record {
      appended = ap (λ (r : Parts). r.appended) parts ∙ s.appended;
      taken = ap (λ (r : Parts). r.taken) parts ∙ s.taken;
      told = ap (λ (r : Parts). r.told) parts ∙ s.told;
      points = ap (λ (r : Parts). r.points) parts ∙ s.points;
      known = ap (λ (r : Parts). r.known) parts ∙ s.known;
      number = s.number ∙ sym (ap (λ (r : Parts). r.blocks) parts);
      halted = ap (λ (r : Parts). r.halted) parts ∙ s.halted;
      dirty = rw parts s.dirty;
      block_map = rw parts s.block_map;
      inodes = ap (λ (r : Parts). r.inodes) parts ∙ s.inodes;
      handed = s.handed;
      entries = ap (λ (r : Parts). r.entries) parts ∙ s.entries;
      text = rw parts s.text;
      freed = rw parts s.freed;
      view = λ t. view t ∙ s.view t;
      disk = λ t m h. ap (λ (image : Image). page_of image m) (disk t) ∙ s.disk t m h;
      low = λ t k. ap last_of (past t k) ∙ s.low t k;
    })
    past
puts_moves seen asked (d ∷ ds) p q half s runs lie may whole parts view disk past =
    let mid = record p { view = set p.view d.block d.page.0; disk = set p.disk d.block d.page.0; past = p.past ++ written d.block d.page.0 (last_of p.past) ∷ [] } in
    let here = writable-head d ds p runs lie may in
    let first = write_moves seen asked p mid half d.block d.page.0 s (record { may = here; inside = λ t. let w = whole t in omega (arith, here.there, w); parts = refl }) refl (λ t. refl) (λ t. refl) (λ t k. refl) in
    let rest = puts_moves seen asked ds mid q (data_written d.block d.page.0 half) first.stands runs lie.1 (λ b put. may b (or_right (d.block == b) (is_put b ds) put))
    (λ t. let w = whole t in omega (arith, w, length-set p.disk d.block d.page.0)) parts view disk past in
    join seen asked p mid q half (Writes d.block d.page.0 ∷ []) (writes ds) first rest

-- ---- one page of a cache

module _ (d : DataPage) (blocks later : ℕ) (dirty : List Dirty) (disk image : Image) (past states : List DiskState) (kept left : Kept) (same : later ≡ blocks) (within : d.block < blocks) where
  abbrev pub old : Store
  old = record { view = image_in blocks disk kept; disk = disk; past = past }

  abbrev pub new : Store
  new = record { view = image_in later image left; disk = image; past = states }

  view-is : ((q : ℕ) → (d.block ≡ q → ⊥) → shown image left q ≡ shown disk kept q) → (bytes : List ℕ) → shown image left d.block ≡ bytes → new.view ≡ set old.view d.block bytes
  view-is others bytes this = ap (λ (n : ℕ). image_in n image left) same ∙ image-set blocks disk image kept left d.block bytes within others this

  pub puts-one : {tells crashes : Type 0} (result : Result (Unit {0}) Fault) → Puts tells crashes d.block d.page.0 disk image past states result →
      (tells → (q : ℕ) → d.block ≢ q → shown image left q ≡ shown disk kept q) →
      (tells → dirty_of dirty d.block ≡ None → shown image left d.block ≡ page_of image d.block) →
      OnOk result (tells → dirty_of dirty d.block ≡ None → shown image left d.block ≡ d.page.0) →
      (tells → dirty_of dirty d.block ≡ None → shown disk kept d.block ≡ page_of disk d.block) →
      (crashes → disk ≡ seen_of (last_of past)) → (crashes → image ≡ seen_of (last_of states)) → PutsOne tells crashes d dirty old new result
  puts-one (Ok done) puts others clean bytes before was is = record {
    view = λ t none. view-is (others t) d.page.0 (bytes t none);
    disk = λ t. puts.image t;
    past = λ t. puts.states t;
  }
  puts-one (Err fault) puts others clean bytes before was is = record {
    view = λ t none. view-is (others t) (page_of image d.block) (clean t none);
    shown = λ t none. image-at blocks disk kept d.block within ∙ before t none;
    disk = λ t. puts.image t;
    past = λ t. puts.states t;
    before = was;
    now = is;
  }

-- ---- a loop over them

-- a list has an item at each place within
pub item-at : (es : List DataPage) (i : ℕ) → i < length es → (x : DataPage) × (slice_get es i ≡ Some x)
item-at [] i h = absurd (omega (arith, h))
item-at (e ∷ es) zero h = (e, refl)
item-at (e ∷ es) (suc i) h = item-at es i (omega (arith, h))

module _ (es : List DataPage) (i : ℕ) (x : DataPage) (is : slice_get es i ≡ Some x) where
  there : drop i es ≡ x ∷ drop (i + 1) es
  there = rw (add-one, drop-cons es i x (slice_get_within es i x is), get_or_from_slice_get es i x x is) refl

  pub puts-next : {tells crashes : Type 0} (dirty : List Dirty) (old mid new : Store) (result : Result (Unit {0}) Fault) → IsPut tells crashes x dirty old mid → PutsAll tells crashes (drop (i + 1) es) dirty mid new result → PutsAll tells crashes (drop i es) dirty old new result
  puts-next {tells} {crashes} dirty old mid new result one rest = subst (λ (ds : List DataPage). PutsAll tells crashes ds dirty old new result) (sym there) (puts-more x (drop (i + 1) es) dirty old mid new result one rest)

  pub torn-next : {tells crashes : Type 0} (dirty : List Dirty) (old new : Store) → IsTorn tells crashes x dirty old new → AreTorn tells crashes (drop i es) dirty old new
  torn-next {tells} {crashes} dirty old new torn = subst (λ (ds : List DataPage). AreTorn tells crashes ds dirty old new) (sym there) (torn-first x (drop (i + 1) es) dirty old new torn)

  pub lie-next : (blocks : ℕ) → LieWithin blocks (drop i es) → LieWithin blocks (drop (i + 1) es)
  lie-next blocks lie = (subst (LieWithin blocks) there lie).1

  pub lie-here : (blocks : ℕ) → LieWithin blocks (drop i es) → x.block < blocks
  lie-here blocks lie = (subst (LieWithin blocks) there lie).0
