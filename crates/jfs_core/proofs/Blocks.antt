-- Each step keeps what is known of one block.
use Rattle.std.proofs.Common.{◌≡◌, ◌<◌, ◌≤◌, ◌⊎◌, ℕ, zero, suc, List, [], ◌∷◌, length, Option, Some, None, IsSome, refl, sym, ap, ◌∙◌, subst, inl, inr, arith}
use Rattle.std.proofs.lemmas.Bool.{cases_lt}
use Rattle.std.proofs.lemmas.List.{length_push, get_or_push, length-append, get_or_at}
use Rattle.jfs_disk.specs.Crash.{PageHistory, content_of, torn}
use Rattle.jfs_core.specs.declared.block.Span.{Span}
use Rattle.jfs_core.specs.Core.{Block}
use Rattle.jfs_core.specs.Step.{EndsBy, BeginsPast, spanned, dirtied, joined, sent_home, failed_home, synced}
use Rattle.jfs_core.specs.Sound.{IsBetween, LiesIn, SpansWithin, BeginInOrder, Throughout, BlockOk}
use Rattle.jfs_disk.proofs.Tearing.{length-torn}
use Rattle.jfs_core.proofs.Cells.{IsBetween-longer, IsBetween-along, IsBetween-exact, IsBetween-steady, IsBetween-torn, all_contents, one_content, two_contents}

-- ---- spans

pub BeginsPast-less : (m n : ℕ) (span : Option Span) → n ≤ m → BeginsPast m span → BeginsPast n span
BeginsPast-less m n None h p = tt
BeginsPast-less m n (Some span) h p = omega (arith, p)

not_before : (m k : ℕ) (span : Option Span) → k ≤ m → BeginsPast m span → LiesIn k span → ⊥
not_before m k None h p l = l
not_before m k (Some span) h p l = omega (arith, p, l.0)

SpansWithin-more : (n : ℕ) (span : Option Span) → SpansWithin n span → SpansWithin (suc n) span
SpansWithin-more n None h = tt
SpansWithin-more n (Some span) h = (h.0, omega (arith, h.1), omega (arith, h.2))

-- ---- more entries are acknowledged

-- from told to m the block is not touched
unchanged : (meta : ℕ → Type 0) (v : ℕ → List ℕ) (told n m : ℕ) (dirty : Option Span) →
    ((k : ℕ) → told ≤ k → k < n → LiesIn (suc k) dirty ⊎ ((v (suc k) ≡ v k) × (meta (suc k) → meta k))) →
    told ≤ m → m ≤ n → BeginsPast m dirty → (v m ≡ v told) × (meta m → meta told)
unchanged meta v told n zero dirty later low high past =
    let e : told ≡ 0 = omega arith in (ap v (sym e), λ h. subst meta (sym e) h)
unchanged meta v told n (suc m) dirty later low high past =
    at (cases_lt told (suc m)) (λ l. unchanged meta v told n m dirty later l (omega arith) (BeginsPast-less (suc m) m dirty (omega arith) past))
  where
    step : LiesIn (suc m) dirty ⊎ ((v (suc m) ≡ v m) × (meta (suc m) → meta m)) → (v m ≡ v told) × (meta m → meta told) → (v (suc m) ≡ v told) × (meta (suc m) → meta told)
    step (inl lies) rest = absurd (not_before (suc m) (suc m) dirty (omega arith) past lies)
    step (inr same) rest = (same.0 ∙ rest.0, λ h. rest.1 (same.1 h))

    at : (told < suc m) ⊎ (suc m ≤ told) → (told ≤ m → (v m ≡ v told) × (meta m → meta told)) → (v (suc m) ≡ v told) × (meta (suc m) → meta told)
    at (inl l) rest = step (later m (omega arith) (omega arith)) (rest (omega arith))
    at (inr l) rest = let e : told ≡ suc m = omega arith in (ap v (sym e), λ h. subst meta (sym e) h)

-- what holds of a content with told entries acknowledged holds with more
content_raised : (meta : ℕ → Type 0) (cares : ℕ → Type 0) (v : ℕ → List ℕ) (n told more : ℕ) (dirty unsynced : Option Span) (content : List ℕ) →
    ((k : ℕ) → told ≤ k → k < n → LiesIn (suc k) dirty ⊎ ((v (suc k) ≡ v k) × (meta (suc k) → meta k))) →
    ((m : ℕ) → m ≤ told → Throughout meta m told → BeginsPast m dirty → BeginsPast m unsynced → IsBetween cares v m told content) →
    told ≤ more → more ≤ n →
    (m : ℕ) → m ≤ more → Throughout meta m more → BeginsPast m dirty → BeginsPast m unsynced → IsBetween cares v m more content
content_raised meta cares v n told more dirty unsynced content later known low high m h trees past_dirty past_unsynced = at (cases_lt told m)
  where
    at : (told < m) ⊎ (m ≤ told) → IsBetween cares v m more content
    at (inr l) = IsBetween-longer cares v m told more content low (known m l (λ k a b. trees k a (omega arith)) past_dirty past_unsynced)
    at (inl l) =
        let same = unchanged meta v told n m dirty later (omega arith) (omega arith) past_dirty in
        let here : meta told = same.1 (trees m (omega arith) h) in
        IsBetween-steady cares v told m more content h same.0
        (known told (omega arith) (λ k a b. let e : told ≡ k = omega arith in subst meta e here)
        (BeginsPast-less m told dirty (omega arith) past_dirty) (BeginsPast-less m told unsynced (omega arith) past_unsynced))

pub BlockOk-raised : (meta : ℕ → Type 0) (cares : ℕ → Type 0) (v : ℕ → List ℕ) (n told more : ℕ) (block : Block) → told ≤ more → more ≤ n → BlockOk meta cares v n told block → BlockOk meta cares v n more block
BlockOk-raised meta cares v n told more block low high ok = record {
  seen_size = ok.seen_size;
  sizes = ok.sizes;
  readable = ok.readable;
  shown = λ m h trees past. content_raised meta cares v n told more block.dirty None block.pages.seen ok.later (λ j a b c _. ok.shown j a b c) low high m h trees past tt;
  pending = λ m h trees past_dirty past_unsynced j l. content_raised meta cares v n told more block.dirty block.unsynced (content_of block.pages j) ok.later (λ i a b c d. ok.pending i a b c d j l) low high m h trees past_dirty past_unsynced;
  later = λ k a b. ok.later k (omega arith) b;
  in_order = ok.in_order;
  dirty_within = ok.dirty_within;
  unsynced_within = ok.unsynced_within;
}

-- ---- the history grows

-- w is v up to n, and so are the entries after which the block is one of a tree
pub record Extends (meta meta' : ℕ → Type 0) (v w : ℕ → List ℕ) (n : ℕ) : Type 0 where
  pub same : (k : ℕ) → k ≤ n → w k ≡ v k
  pub there : (k : ℕ) → k ≤ n → meta k → meta' k
  pub back : (k : ℕ) → k ≤ n → meta' k → meta k

later_extended : (meta meta' : ℕ → Type 0) (v w : ℕ → List ℕ) (n told : ℕ) (dirty dirty' : Option Span) → Extends meta meta' v w n →
    ((k : ℕ) → told ≤ k → k < n → LiesIn (suc k) dirty ⊎ ((v (suc k) ≡ v k) × (meta (suc k) → meta k))) →
    ((k : ℕ) → k < n → LiesIn (suc k) dirty → LiesIn (suc k) dirty') →
    LiesIn (suc n) dirty' ⊎ ((w (suc n) ≡ w n) × (meta' (suc n) → meta' n)) →
    (k : ℕ) → told ≤ k → k < suc n → LiesIn (suc k) dirty' ⊎ ((w (suc k) ≡ w k) × (meta' (suc k) → meta' k))
later_extended meta meta' v w n told dirty dirty' ext later wider last k low high = at (cases_lt k n)
  where
    known : k < n → LiesIn (suc k) dirty ⊎ ((v (suc k) ≡ v k) × (meta (suc k) → meta k)) → LiesIn (suc k) dirty' ⊎ ((w (suc k) ≡ w k) × (meta' (suc k) → meta' k))
    known l (inl lies) = inl (wider k l lies)
    known l (inr same) = inr (ext.same (suc k) (omega arith) ∙ same.0 ∙ sym (ext.same k (omega arith)), λ h. ext.there k (omega arith) (same.1 (ext.back (suc k) (omega arith) h)))

    at : (k < n) ⊎ (n ≤ k) → LiesIn (suc k) dirty' ⊎ ((w (suc k) ≡ w k) × (meta' (suc k) → meta' k))
    at (inl l) = known l (later k low l)
    at (inr l) =
        let e : n ≡ k = omega arith in
        let P : ℕ → Type 0 = λ x. LiesIn (suc x) dirty' ⊎ ((w (suc x) ≡ w x) × (meta' (suc x) → meta' x)) in
        subst P e last

-- an entry that leaves the block
pub BlockOk-grown : (meta meta' : ℕ → Type 0) (cares : ℕ → Type 0) (v w : ℕ → List ℕ) (n told : ℕ) (block : Block) → told ≤ n → Extends meta meta' v w n →
    (w (suc n) ≡ w n) × (meta' (suc n) → meta' n) → BlockOk meta cares v n told block → BlockOk meta' cares w (suc n) told block
BlockOk-grown meta meta' cares v w n told block low ext steady ok = record {
  seen_size = ok.seen_size;
  sizes = ok.sizes;
  readable = ok.readable;
  shown = λ m h trees past. IsBetween-along cares v w m told block.pages.seen (λ k l. ext.same k (omega arith)) (ok.shown m h (λ k a b. ext.back k (omega arith) (trees k a b)) past);
  pending = λ m h trees past_dirty past_unsynced j l. IsBetween-along cares v w m told (content_of block.pages j) (λ k l. ext.same k (omega arith)) (ok.pending m h (λ k a b. ext.back k (omega arith) (trees k a b)) past_dirty past_unsynced j l);
  later = later_extended meta meta' v w n told block.dirty block.dirty ext ok.later (λ k l lies. lies) (inr steady);
  in_order = ok.in_order;
  dirty_within = SpansWithin-more n block.dirty ok.dirty_within;
  unsynced_within = SpansWithin-more n block.unsynced ok.unsynced_within;
}

-- an entry that touches it
spanned-past : (m n : ℕ) (span : Option Span) → BeginsPast m (Some (spanned n span)) → BeginsPast m span
spanned-past m n None h = tt
spanned-past m n (Some span) h = h

spanned-lies : (k n : ℕ) (span : Option Span) → k ≤ n → LiesIn k span → LiesIn k (Some (spanned n span))
spanned-lies k n None h l = absurd l
spanned-lies k n (Some span) h l = (l.0, h)

spanned-last : (n : ℕ) (span : Option Span) → SpansWithin n span → LiesIn (suc n) (Some (spanned (suc n) span))
spanned-last n None h = (omega arith, omega arith)
spanned-last n (Some span) h = (omega (arith, h.1), omega arith)

spanned-order : (n : ℕ) (unsynced span : Option Span) → SpansWithin n unsynced → BeginInOrder unsynced span → BeginInOrder unsynced (Some (spanned (suc n) span))
spanned-order n None span h o = tt
spanned-order n (Some u) None h o = omega (arith, h.1)
spanned-order n (Some u) (Some span) h o = o

spanned-within : (n : ℕ) (span : Option Span) → SpansWithin n span → SpansWithin (suc n) (Some (spanned (suc n) span))
spanned-within n None h = (omega arith, omega arith, omega arith)
spanned-within n (Some span) h = (h.0, omega (arith, h.1), omega arith)

pub BlockOk-dirtied : (meta meta' : ℕ → Type 0) (cares : ℕ → Type 0) (v w : ℕ → List ℕ) (n told : ℕ) (block : Block) → told ≤ n → Extends meta meta' v w n →
    BlockOk meta cares v n told block → BlockOk meta' cares w (suc n) told (dirtied (suc n) block)
BlockOk-dirtied meta meta' cares v w n told block low ext ok = record {
  seen_size = ok.seen_size;
  sizes = ok.sizes;
  readable = ok.readable;
  shown = λ m h trees past. IsBetween-along cares v w m told block.pages.seen (λ k l. ext.same k (omega arith))
      (ok.shown m h (λ k a b. ext.back k (omega arith) (trees k a b)) (spanned-past m (suc n) block.dirty past));
  pending = λ m h trees past_dirty past_unsynced j l. IsBetween-along cares v w m told (content_of block.pages j) (λ k l. ext.same k (omega arith))
      (ok.pending m h (λ k a b. ext.back k (omega arith) (trees k a b)) (spanned-past m (suc n) block.dirty past_dirty) past_unsynced j l);
  later = later_extended meta meta' v w n told block.dirty (Some (spanned (suc n) block.dirty)) ext ok.later (λ k l lies. spanned-lies (suc k) (suc n) block.dirty (omega arith) lies) (inl (spanned-last n block.dirty ok.dirty_within));
  in_order = spanned-order n block.unsynced block.dirty ok.unsynced_within ok.in_order;
  dirty_within = spanned-within n block.dirty ok.dirty_within;
  unsynced_within = SpansWithin-more n block.unsynced ok.unsynced_within;
}

-- ---- writes

pub BlockOk-synced : (meta : ℕ → Type 0) (cares : ℕ → Type 0) (v : ℕ → List ℕ) (n told : ℕ) (block : Block) → BlockOk meta cares v n told block → BlockOk meta cares v n told (synced block)
BlockOk-synced meta cares v n told block ok = record {
  seen_size = ok.seen_size;
  sizes = λ j l. only_seen (λ (c : List ℕ). length c ≡ 4096) ok.seen_size j l;
  readable = (0, omega arith, refl);
  shown = ok.shown;
  pending = λ m h trees past_dirty past_unsynced j l. only_seen (IsBetween cares v m told) (ok.shown m h trees past_dirty) j l;
  later = ok.later;
  in_order = tt;
  dirty_within = ok.dirty_within;
  unsynced_within = tt;
}
  where
    only_seen : (P : List ℕ → Type 0) → P block.pages.seen → (j : ℕ) → j ≤ 0 → P (content_of (synced block).pages j)
    only_seen P h zero l = h
    only_seen P h (suc j) l = absurd (omega arith)

joined-past : (m : ℕ) (old : Option Span) (dirty : Span) → BeginInOrder old (Some dirty) → BeginsPast m (joined old (Some dirty)) → BeginsPast m (Some dirty) × BeginsPast m old
joined-past m None dirty o p = (p, tt)
joined-past m (Some old) dirty o p = (omega (arith, o, p), p)

joined-within : (n : ℕ) (old : Option Span) (dirty : Span) → SpansWithin n old → SpansWithin n (Some dirty) → SpansWithin n (joined old (Some dirty))
joined-within n None dirty ho hd = hd
joined-within n (Some old) dirty ho hd = (ho.0, ho.1, hd.2)

joined-order : (old : Option Span) (dirty : Span) → BeginInOrder (joined old (Some dirty)) None
joined-order None dirty = tt
joined-order (Some old) dirty = tt

pub BlockOk-sent : (meta : ℕ → Type 0) (cares : ℕ → Type 0) (v : ℕ → List ℕ) (n told : ℕ) (bytes : List ℕ) (pages : PageHistory) (dirty unsynced : Option Span) →
    IsSome dirty → EndsBy told dirty → bytes ≡ v told → length bytes ≡ 4096 →
    BlockOk meta cares v n told (record { pages = pages; dirty = dirty; unsynced = unsynced }) →
    BlockOk meta cares v n told (sent_home bytes (record { pages = pages; dirty = dirty; unsynced = unsynced }))
BlockOk-sent meta cares v n told bytes pages None unsynced there ends same size ok = absurd (cc)
BlockOk-sent meta cares v n told bytes pages (Some dirty) unsynced there ends same size ok = record {
  seen_size = size;
  sizes = all_contents (λ (c : List ℕ). length c ≡ 4096) pages bytes (bytes ∷ []) ok.sizes (one_content (λ (c : List ℕ). length c ≡ 4096) bytes size);
  readable = (suc (length pages.writes), omega (arith, length_push pages.writes bytes), sym (get_or_push pages.writes bytes [] (length pages.writes) refl));
  shown = λ m h trees past. IsBetween-exact cares v m told bytes h same;
  pending = λ m h trees past_dirty past_unsynced.
      let past = joined-past m unsynced dirty ok.in_order past_unsynced in
      all_contents (IsBetween cares v m told) pages bytes (bytes ∷ []) (ok.pending m h trees past.0 past.1) (one_content (IsBetween cares v m told) bytes (IsBetween-exact cares v m told bytes h same));
  later = λ k low high. inr (none_later k low high (ok.later k low high));
  in_order = joined-order unsynced dirty;
  dirty_within = tt;
  unsynced_within = joined-within n unsynced dirty ok.unsynced_within ok.dirty_within;
}
  where
    none_later : (k : ℕ) → told ≤ k → k < n → LiesIn (suc k) (Some dirty) ⊎ ((v (suc k) ≡ v k) × (meta (suc k) → meta k)) → (v (suc k) ≡ v k) × (meta (suc k) → meta k)
    none_later k low high (inl lies) = absurd (omega (arith, lies.1, ends))
    none_later k low high (inr same) = same

pub BlockOk-failed : (meta : ℕ → Type 0) (cares : ℕ → Type 0) (v : ℕ → List ℕ) (n told sectors : ℕ) (bytes : List ℕ) (block : Block) →
    sectors ≤ 8 → bytes ≡ v told → length bytes ≡ 4096 → BlockOk meta cares v n told block → BlockOk meta cares v n told (failed_home bytes sectors block)
BlockOk-failed meta cares v n told sectors bytes block few same size ok =
    let left = torn sectors bytes block.pages.seen in
    let left_size : length left ≡ 4096 = length-torn sectors bytes block.pages.seen few size ok.seen_size in
    let shown = λ (m : ℕ) (h : m ≤ told) (trees : Throughout meta m told) (past : BeginsPast m block.dirty).
    IsBetween-torn cares v m told sectors bytes block.pages.seen size few (IsBetween-exact cares v m told bytes h same) (ok.shown m h trees past) in
    record {
      seen_size = left_size;
      sizes = all_contents (λ (c : List ℕ). length c ≡ 4096) block.pages left (left ∷ bytes ∷ []) ok.sizes (two_contents (λ (c : List ℕ). length c ≡ 4096) left bytes left_size size);
      readable = (suc (length block.pages.writes), omega (arith, length-append block.pages.writes (left ∷ bytes ∷ [])), sym (get_or_at block.pages.writes left (bytes ∷ []) [] (length block.pages.writes) refl));
      shown = shown;
      pending = λ m h trees past_dirty past_unsynced. all_contents (IsBetween cares v m told) block.pages left (left ∷ bytes ∷ [])
          (ok.pending m h trees past_dirty past_unsynced)
          (two_contents (IsBetween cares v m told) left bytes (shown m h trees past_dirty) (IsBetween-exact cares v m told bytes h same));
      later = ok.later;
      in_order = ok.in_order;
      dirty_within = ok.dirty_within;
      unsynced_within = ok.unsynced_within;
    }
