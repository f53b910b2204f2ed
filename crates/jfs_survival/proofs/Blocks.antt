-- What is known of one block of both, after each change of it.
use Rattle.std.proofs.Common.{◌≡◌, ◌<◌, ◌≤◌, ◌⊎◌, ◌+◌, ◌-◌, ◌&&◌, nat_le, not, ℕ, zero, suc, Bool, true, false, if◌then◌else◌, List, length, Option, Some, None, IsSome, refl, sym, ap, ap₂, ◌∙◌, subst, inl, inr, arith}
use Rattle.std.proofs.lemmas.Bool.{cases_lt}
use Rattle.jfs_disk.specs.Crash.{PageHistory, page_written, page_failed, resting}
use Rattle.jfs_face.specs.recovery.specs.crash_core.specs.declared.block.Span.{Span}
use Rattle.jfs_face.specs.recovery.specs.crash_core.specs.Core.{Block}
use Rattle.jfs_face.specs.recovery.specs.crash_core.specs.Step.{spanned, dirtied, joined, sent_home, failed_home, synced}
use Rattle.jfs_face.specs.recovery.specs.crash_core.specs.Sound.{LiesIn, SpansWithin}
use Rattle.jfs_face.specs.recovery.specs.Core.{Slot, dropped, data_slot, data_failed_slot, home_slot, home_failed_slot}
use Rattle.jfs_face.specs.recovery.specs.Sound.{SlotOk}
use Rattle.jfs_survival.specs.Stands.{IsBlockOf}

pub never : {A : Type 0} (b : Bool) → b ≡ true → b ≡ false → A
never b e d = absurd (let x : true ≡ false = sym e ∙ d in cc)

pub no_some : {A X : Type 0} (x : X) → None ≡ Some x → A
no_some x e = absurd (cc)

pub none_is : {A : Type 0} (d : Option Span) → d ≡ None → IsSome d → A
none_is None e some = absurd (cc)
none_is (Some span) e some = absurd (cc)

pub moved : (is_map : Bool) (m lines : ℕ → Bool) (n : ℕ) (page : List ℕ) (slot slot' : Slot) (block block' : Block) (shown shown' : List ℕ) → slot' ≡ slot → block' ≡ block → shown' ≡ shown
    → IsBlockOf is_map m lines n page slot block shown → IsBlockOf is_map m lines n page slot' block' shown'
moved is_map m lines n page slot slot' block block' shown shown' a b c h =
    subst (λ (x : Slot). IsBlockOf is_map m lines n page x block' shown') (sym a) (subst (λ (x : Block). IsBlockOf is_map m lines n page slot x shown') (sym b) (subst (λ (x : List ℕ). IsBlockOf is_map m lines n page slot block x) (sym c) h))

-- ---- from an entry on

-- what no entry from one to another changes is after all of them as it was before
pub steady : {X : Type 0} (v : ℕ → X) (from d n : ℕ) → n ≡ from + d → ((k : ℕ) → from ≤ k → k < n → v (suc k) ≡ v k) → v n ≡ v from
steady v from zero n e same = ap v (omega (arith, e))
steady v from (suc d) n e same =
    let here : n ≡ suc (from + d) = omega (arith, e) in
    ap v here ∙ same (from + d) (omega arith) (omega (arith, e)) ∙ steady v from d (from + d) refl (λ k l h. same k l (omega (arith, e, h)))

not_in : {A : Type 0} (dirty : Option Span) (span : Span) (k : ℕ) → dirty ≡ Some span → span.last ≤ k → LiesIn (suc k) dirty ⊎ A → A
not_in None span k e l x = no_some span e
not_in (Some own) span k e l (inr a) = a
not_in (Some own) span k e l (inl lies) = let same : own ≡ span = cc in let d = ap (λ (s : Span). s.last) same in absurd (omega (arith, lies.1, l, d))

pub last_within : (n : ℕ) (dirty : Option Span) (span : Span) → SpansWithin n dirty → dirty ≡ Some span → span.last ≤ n
last_within n None span within e = no_some span e
last_within n (Some own) span within e = let same : own ≡ span = cc in let d = ap (λ (s : Span). s.last) same in omega (arith, within.2, d)

-- A page that is dirty matters now where it mattered after the last entry that it is dirty with.
pub last_now : (m : ℕ → Bool) (cares : ℕ → Type 0) (v : ℕ → List ℕ) (n told : ℕ) (slot : Slot) → SlotOk m cares v n told slot → (span : Span) → slot.block.dirty ≡ Some span → m span.last ≡ m n
last_now m cares v n told slot ok span e = at (cases_lt told span.last)
  where
    high : span.last ≤ n
    high = last_within n slot.block.dirty span ok.ok.dirty_within e

    at : (told < span.last) ⊎ (span.last ≤ told) → m span.last ≡ m n
    at (inr l) = let x = ok.worth span e l in x.1 ∙ sym x.0
    at (inl l) = sym (steady m span.last (n - span.last) n (omega (arith, high)) (λ k low h. not_in slot.block.dirty span k e low (ok.steady k (omega (arith, l, low)) h)))

-- ---- an entry

last_spanned : (n : ℕ) (old : Option Span) (span : Span) → Some (spanned n old) ≡ Some span → span.last ≡ n
last_spanned n None span e = let d : spanned n None ≡ span = cc in ap (λ (s : Span). s.last) (sym d)
last_spanned n (Some old) span e = let d : spanned n (Some old) ≡ span = cc in ap (λ (s : Span). s.last) (sym d)

spanned_last : (n : ℕ) (old : Option Span) → (spanned n old).last ≡ n
spanned_last n None = refl
spanned_last n (Some old) = refl

module _ (is_map : Bool) (m m' lines lines' : ℕ → Bool) (n : ℕ) (page page' : List ℕ) (slot : Slot) (kept : Option (List ℕ)) (block : Block) (shown shown' : List ℕ) (same : (k : ℕ) → k ≤ n → m' k ≡ m k) (before : (k : ℕ) → k < n → lines' k ≡ lines k)
    (within : SpansWithin n slot.block.dirty) (old : IsBlockOf is_map m lines n page slot block shown) (size : is_map ≡ false → length shown' ≡ 4096) (shown_is : is_map ≡ false → m' (suc n) ≡ true → shown' ≡ page') where
  still : (own : Span) → block.dirty ≡ Some own → (k : ℕ) → own.last ≤ k → k < suc n → lines' n ≡ false → lines' k ≡ false
  still own d k l h here = at (cases_lt k n)
    where
      at : (k < n) ⊎ (n ≤ k) → lines' k ≡ false
      at (inl low) = before k low ∙ old.quiet own d k l low
      at (inr high) = let e : k ≡ n = omega (arith, h, high) in ap lines' e ∙ here

  -- an entry touches the page in the core, and has lines of it
  pub entered : (touches has : Bool) → lines' n ≡ has → (touches ≡ false → has ≡ false) → (is_map ≡ true → has ≡ false) → (touches ≡ false → m' (suc n) ≡ m n) → (is_map ≡ false → touches ≡ true → has ≡ false → m' (suc n) ≡ false)
      → IsBlockOf is_map m' lines' (suc n) page' (record slot { block = if touches then dirtied (suc n) slot.block else slot.block; kept = kept }) (if has then dirtied (suc n) block else block) shown'
  entered true true here both maps stays gone = record {
    written = old.written;
    map_clean = λ e. never true refl (maps e);
    synced = old.synced;
    size = size;
    shown_is = shown_is;
    dirty = λ e there some. refl;
    later = λ e span d there. (spanned (suc n) block.dirty, refl, (let a = last_spanned (suc n) slot.block.dirty span d in let b = spanned_last (suc n) block.dirty in omega (arith, a, b)));
    quiet = λ own d k l h. absurd (let e = last_spanned (suc n) block.dirty own d in omega (arith, e, l, h));
  }
  entered true false here both maps stays gone = record {
    written = old.written;
    map_clean = old.map_clean;
    synced = old.synced;
    size = size;
    shown_is = shown_is;
    dirty = λ e there some. refl;
    later = λ e span d there. never (m' (suc n)) (ap m' (sym (last_spanned (suc n) slot.block.dirty span d)) ∙ there) (gone e refl refl);
    quiet = λ own d k l h. still own d k l h here;
  }
  entered false true here both maps stays gone = never true refl (both refl)
  entered false false here both maps stays gone = record {
    written = old.written;
    map_clean = old.map_clean;
    synced = old.synced;
    size = size;
    shown_is = shown_is;
    dirty = λ e there some. old.dirty e (sym (stays refl) ∙ there) some;
    later = λ e span d there. old.later e span d (sym (same span.last (last_within n slot.block.dirty span within d)) ∙ there);
    quiet = λ own d k l h. still own d k l h here;
  }

-- ---- an acknowledgement

dropped_was : (m : ℕ → Bool) (told : ℕ) (dirty : Option Span) (span : Span) → dropped m told dirty ≡ Some span → dirty ≡ Some span
dropped_was m told None span e = e
dropped_was m told (Some own) span e = at (nat_le own.last told && not (m own.last)) e
  where
    at : (b : Bool) → (if b then None else Some own) ≡ Some span → Some own ≡ Some span
    at true d = no_some span d
    at false d = d

dropped_stays : (m : ℕ → Bool) (told : ℕ) (dirty : Option Span) → ((span : Span) → dirty ≡ Some span → m span.last ≡ true) → IsSome dirty → IsSome (dropped m told dirty)
dropped_stays m told None worth some = some
dropped_stays m told (Some own) worth some = rw (worth own refl) (at (nat_le own.last told))
  where
    at : (b : Bool) → IsSome (if b && not true then None else Some own)
    at true = refl
    at false = refl

module _ (is_map : Bool) (m lines : ℕ → Bool) (n : ℕ) (page : List ℕ) (slot : Slot) (block : Block) (shown : List ℕ) (old : IsBlockOf is_map m lines n page slot block shown) where
  pub acknowledged : (told : ℕ) → ((span : Span) → slot.block.dirty ≡ Some span → m span.last ≡ m n)
      → IsBlockOf is_map m lines n page (record slot { block = record slot.block { dirty = dropped m told slot.block.dirty } }) block shown
  acknowledged told last = record {
    written = old.written;
    map_clean = old.map_clean;
    synced = old.synced;
    size = old.size;
    shown_is = old.shown_is;
    dirty = λ e there some. dropped_stays m told slot.block.dirty (λ span d. last span d ∙ there) (old.dirty e there some);
    later = λ e span d there. old.later e span (dropped_was m told slot.block.dirty span d) there;
    quiet = old.quiet;
  }

  -- ---- pages go home

  joined_some : {A : Type 0} (unsynced dirty : Option Span) → IsSome dirty → joined unsynced dirty ≡ None → A
  joined_some unsynced None some e = absurd (cc)
  joined_some None (Some span) some e = absurd (cc)
  joined_some (Some own) (Some span) some e = absurd (cc)

  pub gone_home : (bytes told : List ℕ) → told ≡ bytes → IsSome block.dirty → IsBlockOf is_map m lines n page (home_slot told slot) (sent_home bytes block) shown
  gone_home bytes told e some = record {
    written = ap₂ page_written e old.written;
    map_clean = λ d. refl;
    synced = λ d none. joined_some block.unsynced block.dirty some none;
    size = old.size;
    shown_is = old.shown_is;
    dirty = λ d there is. none_is None refl is;
    later = λ d span is there. no_some span is;
    quiet = λ own d. no_some own d;
  }

  pub torn_home : (bytes told : List ℕ) (sectors : ℕ) → told ≡ bytes → IsBlockOf is_map m lines n page (home_failed_slot told sectors slot) (failed_home bytes sectors block) shown
  torn_home bytes told sectors e = record {
    written = ap₂ (λ (b : List ℕ) (p : PageHistory). page_failed b sectors p) e old.written;
    map_clean = old.map_clean;
    synced = old.synced;
    size = old.size;
    shown_is = old.shown_is;
    dirty = old.dirty;
    later = old.later;
    quiet = old.quiet;
  }

  -- a page of a map, which the half writes whole
  pub map_home : (bytes told : List ℕ) (new : List ℕ) → told ≡ bytes → is_map ≡ true → IsBlockOf is_map m lines n page (home_slot told slot) (sent_home bytes block) new
  map_home bytes told new e this = record {
    written = ap₂ page_written e old.written;
    map_clean = λ d. refl;
    synced = λ d none. never is_map this d;
    size = λ d. never is_map this d;
    shown_is = λ d there. never is_map this d;
    dirty = λ d there is. never is_map this d;
    later = λ d span is there. never is_map this d;
    quiet = λ own d. no_some own d;
  }

  pub map_torn : (bytes told : List ℕ) (sectors : ℕ) (new : List ℕ) → told ≡ bytes → is_map ≡ true → IsBlockOf is_map m lines n page (home_failed_slot told sectors slot) (failed_home bytes sectors block) new
  map_torn bytes told sectors new e this = record {
    written = ap₂ (λ (b : List ℕ) (p : PageHistory). page_failed b sectors p) e old.written;
    map_clean = old.map_clean;
    synced = λ d none. never is_map this d;
    size = λ d. never is_map this d;
    shown_is = λ d there. never is_map this d;
    dirty = λ d there is. never is_map this d;
    later = λ d span is there. never is_map this d;
    quiet = old.quiet;
  }

  -- ---- pages that don't matter

  module _ (gone : m n ≡ false) (last : (span : Span) → slot.block.dirty ≡ Some span → m span.last ≡ m n) where
    -- what the half holds of it goes
    pub forgotten : (new : List ℕ) → length new ≡ 4096 → IsBlockOf is_map m lines n page slot (record block { dirty = None }) new
    forgotten new size = record {
      written = old.written;
      map_clean = λ e. refl;
      synced = old.synced;
      size = λ e. size;
      shown_is = λ e there. never (m n) there gone;
      dirty = λ e there some. never (m n) there gone;
      later = λ e span d there. never (m n) (sym (last span d) ∙ there) gone;
      quiet = λ own d. no_some own d;
    }

    pub data_put : (bytes : List ℕ) → length bytes ≡ 4096 → block.dirty ≡ None → IsBlockOf is_map m lines n page (data_slot n bytes slot) (sent_home bytes block) bytes
    data_put bytes size clean = record {
      written = ap (page_written bytes) old.written;
      map_clean = λ e. refl;
      synced = λ e none. old.synced e (unjoined block.unsynced block.dirty clean none);
      size = λ e. size;
      shown_is = λ e there. never (m n) there gone;
      dirty = λ e there some. never (m n) there gone;
      later = λ e span d there. never (m n) (sym (last span d) ∙ there) gone;
      quiet = λ own d. no_some own d;
    }
      where
        unjoined : (unsynced dirty : Option Span) → dirty ≡ None → joined unsynced dirty ≡ None → unsynced ≡ None
        unjoined None dirty e none = refl
        unjoined (Some own) None e none = none
        unjoined (Some own) (Some span) e none = no_some span (sym e)

    pub data_torn : (bytes : List ℕ) (sectors : ℕ) (new : List ℕ) → length new ≡ 4096 → IsBlockOf is_map m lines n page (data_failed_slot n bytes sectors slot) (failed_home bytes sectors block) new
    data_torn bytes sectors new size = record {
      written = ap (page_failed bytes sectors) old.written;
      map_clean = old.map_clean;
      synced = old.synced;
      size = λ e. size;
      shown_is = λ e there. never (m n) there gone;
      dirty = λ e there some. never (m n) there gone;
      later = λ e span d there. never (m n) (sym (last span d) ∙ there) gone;
      quiet = old.quiet;
    }

    -- a page that was freed goes home all the same
    pub free_home : (bytes : List ℕ) → is_map ≡ false → IsSome block.dirty → IsBlockOf is_map m lines n page (data_slot n bytes slot) (sent_home bytes block) shown
    free_home bytes none some = record {
      written = ap (page_written bytes) old.written;
      map_clean = λ e. refl;
      synced = λ e d. joined_some block.unsynced block.dirty some d;
      size = old.size;
      shown_is = λ e there. never (m n) there gone;
      dirty = λ e there is. never (m n) there gone;
      later = λ e span d there. never (m n) (sym (last span d) ∙ there) gone;
      quiet = λ own d. no_some own d;
    }

    pub free_torn : (bytes : List ℕ) (sectors : ℕ) → IsBlockOf is_map m lines n page (data_failed_slot n bytes sectors slot) (failed_home bytes sectors block) shown
    free_torn bytes sectors = record {
      written = ap (page_failed bytes sectors) old.written;
      map_clean = old.map_clean;
      synced = old.synced;
      size = old.size;
      shown_is = λ e there. never (m n) there gone;
      dirty = λ e there is. never (m n) there gone;
      later = λ e span d there. never (m n) (sym (last span d) ∙ there) gone;
      quiet = old.quiet;
    }

  -- ---- a sync

  pub settled : (kept : Option (List ℕ)) → IsBlockOf is_map m lines n page (record slot { block = synced slot.block; kept = kept }) (synced block) shown
  settled kept = record {
    written = ap (λ (p : PageHistory). resting p.seen) old.written;
    map_clean = old.map_clean;
    synced = λ e none. refl;
    size = old.size;
    shown_is = old.shown_is;
    dirty = old.dirty;
    later = old.later;
    quiet = old.quiet;
  }
