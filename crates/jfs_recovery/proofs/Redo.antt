-- Redo of what a crash leaves of a sound core.
use Rattle.std.proofs.Common.{◌≡◌, ◌<◌, ◌≤◌, ◌⊎◌, ◌+◌, ◌*◌, ◌/◌, ◌%◌, ℕ, zero, suc, Bool, true, false, if◌then◌else◌, List, length, refl, sym, ap, ◌∙◌, subst, inl, inr, arith}
use Rattle.std.proofs.lemmas.Bool.{cases_lt, cases_Bool, cond-true, cond-false}
use Rattle.std.proofs.lemmas.List.{ext_get_or}
use Rattle.jfs_disk.specs.Crash.{content_of}
use Rattle.jfs_disk.proofs.Tearing.{length-torn}
use Rattle.jfs_ranges.specs.declared.edit.Edit.{Edit}
use Rattle.jfs_core.specs.Sound.{IsBetween, Throughout}
use Rattle.jfs_core.proofs.Cells.{IsBetween-torn}
use Rattle.jfs_core.proofs.Blocks.{BeginsPast-less}
use Rattle.jfs_recovery.specs.Face.{Face, IsFace, Item, Value, Gives, Passes, Pages, byte, item, IsStep, redo_page, redo_item, matters}
use Rattle.jfs_recovery.specs.Core.{Core, entry, image, count, newest, matters_at, IsLogged}
use Rattle.jfs_recovery.specs.Sound.{Cares, IsSound, IsLeft, IsLogImage, window, AlwaysRecovers}
use Rattle.jfs_recovery.proofs.Images.{size_image, canonical_image, item_next, redo_none, redo_next, size_redo, redo_item_none, redo_item_next}

both : (true ≡ false) → ⊥
both e = cc

-- ---- a byte of a page

-- redo passes over the byte, which is the same after all these entries, and the page mattered all along
pub record Untouched (m : ℕ → Bool) (v : ℕ → List ℕ) (c n i : ℕ) (left now : List ℕ) : Type 0 where
  pub stays : byte now i ≡ byte left i
  pub steady : (k : ℕ) → c ≤ k → k ≤ n → byte (v k) i ≡ byte (v n) i
  pub mattered : (k : ℕ) → c ≤ k → k ≤ n → m k ≡ true

abbrev pub Cases : (ℕ → Bool) → (ℕ → List ℕ) → ℕ → ℕ → ℕ → List ℕ → List ℕ → Type 0
Cases m v c n i left now = (byte now i ≡ byte (v n) i) ⊎ Untouched m v c n i left now

-- one entry more
next_case : (f : Face) → IsFace f → (s : Pages) (tx : List Edit) (t : Pages) → IsStep f s tx t → (p i : ℕ) → f.is_map p ≡ false → i < 4096 → IsLogged f s tx t p → length (s p) ≡ 4096 →
    (m : ℕ → Bool) (v : ℕ → List ℕ) (c n : ℕ) → c ≤ n → (left now : List ℕ) → length left ≡ 4096 → length now ≡ 4096 →
    m n ≡ matters f s p → m (suc n) ≡ matters f t p → v n ≡ s p → v (suc n) ≡ t p →
    (m n ≡ true → Cases m v c n i left now) → m (suc n) ≡ true →
    Cases m v c (suc n) i left (f.redoes tx p (if f.closes tx p then left else now))
next_case f laws s tx t follows p i page small logged size m v c n cn left now size_left size_now mn mt vn vt before true_after = at (cases_Bool (f.closes tx p)) (cases_Bool (m n))
  where
    base : List ℕ
    base = if f.closes tx p then left else now

    Goal : Type 0
    Goal = Cases m v c (suc n) i left (f.redoes tx p base)

    lines_are : t p ≡ f.lines tx p (s p)
    lines_are = follows.pages p page

    whole : (f.closes tx p ≡ true) ⊎ (matters f s p ≡ false) → length base ≡ 4096 → Goal
    whole why size_base = inl (logged.whole (sym mt ∙ true_after) why base i size_base small ∙ ap (λ (a : List ℕ). byte a i) (sym vt))

    steady : Passes f tx p i → f.closes tx p ≡ false → byte (v n) i ≡ byte (v (suc n)) i
    steady passes unclosed = ap (λ (a : List ℕ). byte a i) vn ∙ sym (passes.lines unclosed (s p) size) ∙ ap (λ (a : List ℕ). byte a i) (sym lines_are ∙ sym vt)

    stay : Passes f tx p i → f.closes tx p ≡ false → m n ≡ true → Untouched m v c n i left now → (k : ℕ) → c ≤ k → k ≤ suc n → (byte (v k) i ≡ byte (v (suc n)) i) × (m k ≡ true)
    stay passes unclosed mattered u k ck kn = which (cases_lt n k)
      where
        which : (n < k) ⊎ (k ≤ n) → (byte (v k) i ≡ byte (v (suc n)) i) × (m k ≡ true)
        which (inl l) = let e : suc n ≡ k = omega arith in (ap (λ (j : ℕ). byte (v j) i) (sym e), subst (λ (j : ℕ). m j ≡ true) e true_after)
        which (inr l) = (u.steady k ck l ∙ steady passes unclosed, u.mattered k ck l)

    open_case : f.closes tx p ≡ false → m n ≡ true → base ≡ now → Cases m v c n i left now → Gives f tx p i ⊎ Passes f tx p i → Goal
    open_case unclosed mattered e old (inl gives) =
        inl (gives base (s p) (ap (λ (a : List ℕ). length a) e ∙ size_now) size ∙ ap (λ (a : List ℕ). byte a i) (sym lines_are ∙ sym vt))
    open_case unclosed mattered e (inl same) (inr passes) =
        inl (passes.redo base (ap (λ (a : List ℕ). length a) e ∙ size_now) ∙ ap (λ (a : List ℕ). byte a i) e ∙ same ∙ steady passes unclosed)
    open_case unclosed mattered e (inr u) (inr passes) = inr (record {
      stays = passes.redo base (ap (λ (a : List ℕ). length a) e ∙ size_now) ∙ ap (λ (a : List ℕ). byte a i) e ∙ u.stays;
      steady = λ k ck kn. (stay passes unclosed mattered u k ck kn).0;
      mattered = λ k ck kn. (stay passes unclosed mattered u k ck kn).1;
    })

    at : (f.closes tx p ≡ true) ⊎ (f.closes tx p ≡ false) → (m n ≡ true) ⊎ (m n ≡ false) → Goal
    at (inl e) x = whole (inl e) (ap (λ (a : List ℕ). length a) (cond-true (f.closes tx p) left now e) ∙ size_left)
    at (inr e) (inr none) = whole (inr (sym mn ∙ none)) (ap (λ (a : List ℕ). length a) (cond-false (f.closes tx p) left now e) ∙ size_now)
    at (inr e) (inl some) = open_case e some (cond-false (f.closes tx p) left now e) (before some) (laws.bytes tx p i small)

abbrev pub redone_page : Face → Core → ℕ → ℕ → ℕ → List ℕ → List ℕ
redone_page f core p c n left = redo_page f p left left (window core c n)

page_cases : (f : Face) → IsFace f → (core : Core) → IsSound f core → (p i : ℕ) → f.is_map p ≡ false → i < 4096 → (c : ℕ) (left : List ℕ) → length left ≡ 4096 →
    (n : ℕ) → c ≤ n → n ≤ count core → matters_at f core p n ≡ true → Cases (matters_at f core p) (λ k. image core k p) c n i left (redone_page f core p c n left)
page_cases f laws core kept p i page small c left size n cn w mattered = by_count n cn w mattered
  where
    m : ℕ → Bool
    m = matters_at f core p

    v : ℕ → List ℕ
    v k = image core k p

    Goal : ℕ → Type 0
    Goal k = Cases m v c k i left (redone_page f core p c k left)

    -- no entry
    none : (k : ℕ) → k ≡ c → m k ≡ true → Goal k
    none k e here = inr (record {
      stays = ap (λ (a : List ℕ). byte a i) (ap (λ (j : ℕ). redo_page f p left left (window core c j)) e ∙ redo_none f core p c left);
      steady = λ j a b. let same : j ≡ k = omega arith in ap (λ (q : ℕ). byte (v q) i) same;
      mattered = λ j a b. let same : k ≡ j = omega arith in subst (λ (q : ℕ). m q ≡ true) same here;
    })

    more : (k : ℕ) → c ≤ k → k < count core → (m k ≡ true → Goal k) → m (suc k) ≡ true → Goal (suc k)
    more k ck l before here =
        let P : List ℕ → Type 0 = λ x. Cases m v c (suc k) i left x in
        subst P (sym (redo_next f core p c k left ck l))
        (next_case f laws (image core k) (entry core k) (image core (suc k)) (kept.follows k l) p i page small (kept.logged k p l page) (size_image f laws core kept k (omega arith) p) m v c k ck left (redone_page f core p c k left)
        size (size_redo f laws p left size (window core c k) left size)
        refl refl refl refl before here)

    by_count : (k : ℕ) → c ≤ k → k ≤ count core → m k ≡ true → Goal k
    by_count zero h l here = none zero (omega arith) here
    by_count (suc k) h l here = which (cases_lt k c) (λ q there. by_count k q (omega arith) there)
      where
        which : (k < c) ⊎ (c ≤ k) → (c ≤ k → m k ≡ true → Goal k) → Goal (suc k)
        which (inl q) before = none (suc k) (omega arith) here
        which (inr q) before = more k q (omega arith) (before q) here

-- ---- a page that doesn't matter

page_left : (f : Face) → IsFace f → (core : Core) → IsSound f core → (p : ℕ) → f.is_map p ≡ false → (c : ℕ) (left : List ℕ) → length left ≡ 4096 →
    (n : ℕ) → c ≤ n → n ≤ count core → matters_at f core p n ≡ false → redone_page f core p c n left ≡ left
page_left f laws core kept p page c left size n cn w none = by_count n cn w none
  where
    empty : (k : ℕ) → k ≡ c → redone_page f core p c k left ≡ left
    empty k e = ap (λ (j : ℕ). redo_page f p left left (window core c j)) e ∙ redo_none f core p c left

    more : (k : ℕ) → c ≤ k → k < count core → (matters_at f core p k ≡ false → redone_page f core p c k left ≡ left) → matters_at f core p (suc k) ≡ false → redone_page f core p c (suc k) left ≡ left
    more k ck l before gone = redo_next f core p c k left ck l ∙ logged.shut gone (if f.closes tx p then left else now) (base_size (cases_Bool (f.closes tx p))) ∙ at (cases_Bool (f.closes tx p)) (cases_Bool (matters_at f core p k))
      where
        tx : List Edit
        tx = entry core k

        now : List ℕ
        now = redone_page f core p c k left

        logged : IsLogged f (image core k) tx (image core (suc k)) p
        logged = kept.logged k p l page

        base_size : (f.closes tx p ≡ true) ⊎ (f.closes tx p ≡ false) → length (if f.closes tx p then left else now) ≡ 4096
        base_size (inl e) = ap (λ (a : List ℕ). length a) (cond-true (f.closes tx p) left now e) ∙ size
        base_size (inr e) = ap (λ (a : List ℕ). length a) (cond-false (f.closes tx p) left now e) ∙ size_redo f laws p left size (window core c k) left size

        at : (f.closes tx p ≡ true) ⊎ (f.closes tx p ≡ false) → (matters_at f core p k ≡ true) ⊎ (matters_at f core p k ≡ false) → (if f.closes tx p then left else now) ≡ left
        at (inl e) x = cond-true (f.closes tx p) left now e
        at (inr e) (inr old) = cond-false (f.closes tx p) left now e ∙ before old
        at (inr e) (inl old) = absurd (both (sym (logged.noted gone old) ∙ e))

    by_count : (k : ℕ) → c ≤ k → k ≤ count core → matters_at f core p k ≡ false → redone_page f core p c k left ≡ left
    by_count zero h l gone = empty zero (omega arith)
    by_count (suc k) h l gone = which (cases_lt k c) (λ q there. by_count k q (omega arith) there)
      where
        which : (k < c) ⊎ (c ≤ k) → (c ≤ k → matters_at f core p k ≡ false → redone_page f core p c k left ≡ left) → redone_page f core p c (suc k) left ≡ left
        which (inl q) before = empty (suc k) (omega arith)
        which (inr q) before = more k q (omega arith) (before q) gone

-- ---- an item of the maps

abbrev item_at : Face → Core → Item → ℕ → Value
item_at f core i k = item f (image core k) i

abbrev ItemCases : Face → Core → Item → ℕ → ℕ → Type 0
ItemCases f core i c n =
    ((x : Value) → redo_item f i x (window core c n) ≡ item_at f core i n)
    ⊎ (((x : Value) → redo_item f i x (window core c n) ≡ x) × ((k : ℕ) → c ≤ k → k ≤ n → item_at f core i k ≡ item_at f core i n))

item_cases : (f : Face) → IsFace f → (core : Core) → IsSound f core → (i : Item) (c n : ℕ) → c ≤ n → n ≤ count core → ItemCases f core i c n
item_cases f laws core kept i c n cn w = by_count n cn w
  where
    none : (k : ℕ) → k ≡ c → ItemCases f core i c k
    none k e = inr (
      λ x. ap (λ (j : ℕ). redo_item f i x (window core c j)) e ∙ redo_item_none f core i c x,
      λ j a b. let same : j ≡ k = omega arith in ap (λ (q : ℕ). item_at f core i q) same,
    )

    more : (k : ℕ) → c ≤ k → k < count core → ItemCases f core i c k → ItemCases f core i c (suc k)
    more k ck l before = at (laws.sets_or_passes tx i) before
      where
        tx : List Edit
        tx = entry core k

        steady : ((x : Value) → f.sets tx i x ≡ x) → item_at f core i k ≡ item_at f core i (suc k)
        steady passes = sym (passes (item_at f core i k)) ∙ sym (item_next f laws core kept i k l)

        stay : ((x : Value) → f.sets tx i x ≡ x) → ((j : ℕ) → c ≤ j → j ≤ k → item_at f core i j ≡ item_at f core i k) → (j : ℕ) → c ≤ j → j ≤ suc k → item_at f core i j ≡ item_at f core i (suc k)
        stay passes old j a b = which (cases_lt k j)
          where
            which : (k < j) ⊎ (j ≤ k) → item_at f core i j ≡ item_at f core i (suc k)
            which (inl q) = let e : j ≡ suc k = omega arith in ap (λ (z : ℕ). item_at f core i z) e
            which (inr q) = old j a q ∙ steady passes

        at : ((x y : Value) → f.sets tx i x ≡ f.sets tx i y) ⊎ ((x : Value) → f.sets tx i x ≡ x) → ItemCases f core i c k → ItemCases f core i c (suc k)
        at (inl sets) old = inl (λ x. redo_item_next f core i c k x ck l ∙ sets (redo_item f i x (window core c k)) (item_at f core i k) ∙ sym (item_next f laws core kept i k l))
        at (inr passes) (inl same) = inl (λ x. redo_item_next f core i c k x ck l ∙ passes (redo_item f i x (window core c k)) ∙ same x ∙ steady passes)
        at (inr passes) (inr old) = inr (λ x. redo_item_next f core i c k x ck l ∙ passes (redo_item f i x (window core c k)) ∙ old.0 x, stay passes old.1)

    by_count : (k : ℕ) → c ≤ k → k ≤ count core → ItemCases f core i c k
    by_count zero h l = none zero (omega arith)
    by_count (suc k) h l = which (cases_lt k c) (λ q. by_count k q (omega arith))
      where
        which : (k < c) ⊎ (c ≤ k) → (c ≤ k → ItemCases f core i c k) → ItemCases f core i c (suc k)
        which (inl q) before = none (suc k) (omega arith)
        which (inr q) before = more k q (omega arith) (before q)

-- ---- what a crash leaves

pub known_cells : (f : Face) (core : Core) → IsSound f core → (low : Pages) → IsLeft core low → (c : ℕ) → c ≤ newest core → c ≤ core.told → (p : ℕ) →
    Throughout (λ k. matters_at f core p k ≡ true) c core.told → IsBetween (Cares f p) (λ k. image core k p) c core.told (low p)
known_cells f core kept low left c early told p matters =
    let page = left p in
    let ok = (kept.slots p).ok in
    let block = (core.slots p).block in
    let dirty = BeginsPast-less (newest core) c block.dirty early (kept.passed p).0 in
    let unsynced = BeginsPast-less (newest core) c block.unsynced early (kept.passed p).1 in
    let of = λ (j : ℕ) (l : j ≤ length block.pages.writes). ok.pending c told matters dirty unsynced j l in
    let base : page.base ≤ length block.pages.writes = omega (arith, page.older, page.there) in
    let P : List ℕ → Type 0 = IsBetween (Cares f p) (λ k. image core k p) c core.told in
    subst P (sym page.content)
    (IsBetween-torn (Cares f p) (λ k. image core k p) c core.told page.sectors (content_of block.pages page.top) (content_of block.pages page.base)
    (ok.sizes page.top page.there) page.within (of page.top page.there) (of page.base base))

pub size_left : (f : Face) (core : Core) → IsSound f core → (low : Pages) → IsLeft core low → (p : ℕ) → length (low p) ≡ 4096
size_left f core kept low left p =
    let page = left p in
    let ok = (kept.slots p).ok in
    let block = (core.slots p).block in
    ap (λ (c : List ℕ). length c) page.content
    ∙ length-torn page.sectors (content_of block.pages page.top) (content_of block.pages page.base)
    page.within (ok.sizes page.top page.there) (ok.sizes page.base (omega (arith, page.older, page.there)))

-- ---- the theorem

pub record Facts (core : Core) (c n : ℕ) : Type 0 where
  pub early : c ≤ newest core
  pub told : c ≤ core.told
  pub later : core.told ≤ n
  pub within : n ≤ count core

pub facts : (f : Face) (core : Core) → IsSound f core → (c n : ℕ) → IsLogImage core c n → Facts core c n
facts f core kept c n log =
    let counts = kept.counts in
    let points = kept.points in
    let there : log.place.0 < length core.syncpoints = omega (arith, log.place.2, points.taken_there) in
    record {
      early = omega (arith, log.place.3, kept.rising log.place.0 there);
      told = omega (arith, log.place.3, points.acknowledged log.place.0 there);
      later = omega (arith, counts.told_durable, log.durable);
      within = omega (arith, log.taken, counts.taken_appended);
    }

pub recovers_page : (f : Face) → IsFace f → (core : Core) → IsSound f core → (low : Pages) → IsLeft core low → (c n : ℕ) → Facts core c n → (p : ℕ) → f.is_map p ≡ false →
    matters_at f core p n ≡ true → redone_page f core p c n (low p) ≡ image core n p
recovers_page f laws core kept low left c n fs p page mattered =
    let size = size_left f core kept low left p in
    let redone_size = size_redo f laws p (low p) size (window core c n) (low p) size in
    let image_size = size_image f laws core kept n fs.within p in
    ext_get_or 0 (redone_page f core p c n (low p)) (image core n p) (redone_size ∙ sym image_size) (λ i w.
    let small : i < 4096 = omega (arith, w, redone_size) in
    at i small (page_cases f laws core kept p i page small c (low p) size n (omega (arith, fs.told, fs.later)) fs.within mattered))
  where
    at : (i : ℕ) → i < 4096 → Cases (matters_at f core p) (λ k. image core k p) c n i (low p) (redone_page f core p c n (low p)) → byte (redone_page f core p c n (low p)) i ≡ byte (image core n p) i
    at i small (inl same) = same
    at i small (inr u) =
        let known = known_cells f core kept low left c fs.early fs.told p (λ k a b. u.mattered k a (omega (arith, fs.later))) in
        let cell = known.each (i / 16) (omega arith) (inl page) in
        let place : 16 * (i / 16) + i % 16 ≡ i = omega arith in
        let same : byte (low p) i ≡ byte (image core cell.0 p) i =
        subst (λ (x : ℕ). byte (low p) x ≡ byte (image core cell.0 p) x) place (cell.3 (i % 16) (omega arith)) in
        u.stays ∙ same ∙ u.steady cell.0 cell.1 (omega (arith, cell.2, fs.later))

recovers_item : (f : Face) → IsFace f → (core : Core) → IsSound f core → (low : Pages) → IsLeft core low → (c n : ℕ) → Facts core c n → (i : Item) →
    redo_item f i (item f low i) (window core c n) ≡ item_at f core i n
recovers_item f laws core kept low left c n fs i = at (item_cases f laws core kept i c n (omega (arith, fs.told, fs.later)) fs.within)
  where
    p : ℕ
    p = f.home i

    at : ItemCases f core i c n → redo_item f i (item f low i) (window core c n) ≡ item_at f core i n
    at (inl same) = same (item f low i)
    at (inr old) =
        let known = known_cells f core kept low left c fs.early fs.told p (λ k a b. laws.area (image core k) p (laws.at_home i)) in
        let cell = known.each (f.cell i) (laws.in_page i) (inr (i, refl, refl)) in
        old.0 (item f low i) ∙ laws.in_cell i (low p) (image core cell.0 p) cell.3 ∙ old.1 cell.0 cell.1 (omega (arith, cell.2, fs.later))

pub always_recovers : (f : Face) → IsFace f → (core : Core) → IsSound f core → AlwaysRecovers f core
always_recovers f laws core kept low c n redone left log is_redone = record {
  gives = λ p mattered. gives p mattered (cases_Bool (f.is_map p));
  leaves = λ p gone. leaves p gone (cases_Bool (f.is_map p));
}
  where
    fs : Facts core c n
    fs = facts f core kept c n log

    pages : ℕ → List ℕ
    pages q = redone_page f core q c n (low q)

    items : Item → Value
    items i = redo_item f i (item f low i) (window core c n)

    gives : (p : ℕ) → matters_at f core p n ≡ true → (f.is_map p ≡ true) ⊎ (f.is_map p ≡ false) → redone p ≡ image core n p
    gives p mattered (inr page) = is_redone.pages p page ∙ recovers_page f laws core kept low left c n fs p page mattered
    gives p mattered (inl map) =
        let there = canonical_image f laws core kept n fs.within p map in
        laws.agree pages there.pages items there.items
        (λ i. recovers_item f laws core kept low left c n fs i ∙ sym (there.same_items i))
        (λ q page has. recovers_page f laws core kept low left c n fs q page (laws.inodes (image core n) there.items there.same_items q has) ∙ sym (there.same_pages q page))
        p (redone p) (image core n p) map (is_redone.maps p map) there.map

    leaves : (p : ℕ) → matters_at f core p n ≡ false → (f.is_map p ≡ true) ⊎ (f.is_map p ≡ false) → redone p ≡ low p
    leaves p gone (inr page) = is_redone.pages p page ∙ page_left f laws core kept p page c (low p) (size_left f core kept low left p) n (omega (arith, fs.told, fs.later)) fs.within gone
    leaves p gone (inl map) = absurd (both (sym (laws.area (image core n) p map) ∙ gone))
