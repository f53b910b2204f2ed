-- The maps say the same sizes whatever is written.
use Rattle.std.proofs.Common.{◌≡◌, ◌⊎◌, ◌≤◌, ◌<◌, ◌+◌, ◌-◌, ◌*◌, ◌/◌, ◌%◌, ◌==◌, ℕ, zero, suc, Bool, true, false, true≢false, if◌then◌else◌, List, [], ◌∷◌, length, drop, get_or, Option, refl, sym, ap, ◌∙◌, subst, inl, inr, arith}
use Rattle.std.proofs.lemmas.Bool.{cases_Bool, cond-true, cond-false, eqb-true}
use Rattle.std.proofs.lemmas.List.{get_or-take, get_or-drop}
use Rattle.jfs_bits.specs.Bits.{is_taken, is_taken_in}
use Rattle.jfs_bits.specs.Field.{field_of, range_of}
use Rattle.jfs_disk.specs.Crash.{PageHistory, content_of, torn, page_written, page_failed}
use Rattle.jfs_ranges.specs.declared.edit.Edit.{Edit}
use Rattle.jfs_recovery.specs.crash_core.specs.Sound.{SameCell, IsBetween}
use Rattle.jfs_recovery.specs.crash_core.specs.Step.{dirtied}
use Rattle.jfs_recovery.specs.crash_core.proofs.Cells.{IsBetween-torn, all_contents, one_content, two_contents}
use Rattle.jfs_recovery.specs.records.specs.logpages.proofs.Torn.{field-same}
use Rattle.jfs_recovery.specs.objects.specs.Readers.{Readers}
use Rattle.jfs_recovery.specs.kinds.specs.Owner.{Owner, is_logged}
use Rattle.jfs_recovery.specs.Face.{Face, IsFace, Pages}
use Rattle.jfs_recovery.specs.Core.{Core, Slot, Step, count, image, matters_at, owner_at, told_page, MayWrite, IsAllowed, AreAllowed, does, after_steps}
use Rattle.jfs_recovery.specs.Core.Step.{Write, WriteFails, Append, Take, GroupWrite, Told, Home, HomeFails, LowSync, SyncPoint}
use Rattle.jfs_recovery.specs.Sound.{IsSound, IsLeft}
use Rattle.jfs_recovery.proofs.Images.{canonical_image, size_image}
use Rattle.jfs_recovery.proofs.Kept.{kept_step}
use Rattle.jfs_face.specs.Places.{Places, AreInAreas, is_map_page}
use Rattle.jfs_face.specs.MapPages.{IsCanonicalPage}
use Rattle.jfs_face.specs.Volume.{face_of}
use Rattle.jfs_face.proofs.Reading.{block_page, inode_page}
use Rattle.jfs_face.proofs.Whole.{is_face}
use Rattle.jfs_left_maps.specs.Sizes.{SaysSizes, OfAllContents, KeepsSizes, SizesLaw}

-- ---- bytes of a cell

-- the one or the other
abbrev which : List ℕ → List ℕ → ℕ → List ℕ
which a b zero = a
which a b (suc k) = b

torn_at : (s : ℕ) (a b : List ℕ) → length a ≡ 4096 → s ≤ 8 → (cell : ℕ) → cell < 256 → (k : ℕ) × SameCell (torn s a b) (which a b k) cell
torn_at s a b size h cell small =
    let known : IsBetween (λ c. c ≡ cell) (which a b) 0 1 (torn s a b) = IsBetween-torn (λ c. c ≡ cell) (which a b) 0 1 s a b size h
    (record { each = λ c w e. (0, omega arith, omega arith, λ i l. refl) }) (record { each = λ c w e. (1, omega arith, omega arith, λ i l. refl) }) in
    let there = known.each cell small refl in
    (there.0, there.3)

field_in : (a b : List ℕ) (at width : ℕ) → at + width ≤ 16 → SameCell a b 0 → field_of a at width ≡ field_of b at width
field_in a b at width few same = field-same at width a b (λ j from upto.
    let place : 16 * 0 + j ≡ j = omega arith in
    subst (λ (k : ℕ). get_or a k 0 ≡ get_or b k 0) place (same j (omega (arith, upto, few))))

-- a byte of a dmap's persistent bits
in_bits : (a : List ℕ) (j : ℕ) → j < 1024 → get_or (range_of a 3072 1024) j 0 ≡ get_or a (3072 + j) 0
unfolding range_of
in_bits a j small = get_or-take 1024 (drop 3072 a) j 0 small ∙ get_or-drop 3072 a j 0

-- a block's bit stands in one cell
bit_same : (a b : List ℕ) (i : ℕ) → i < 8192 → SameCell a b (192 + i / 32 / 4) → is_taken (range_of a 3072 1024) i ≡ is_taken (range_of b 3072 1024) i
unfolding is_taken
bit_same a b i small same = ap (λ (word : ℕ). is_taken_in word (i % 32)) (field-same (4 * (i / 32)) 4 (range_of a 3072 1024) (range_of b 3072 1024) byte)
  where
    byte : (j : ℕ) → 4 * (i / 32) ≤ j → j < 4 * (i / 32) + 4 → get_or (range_of a 3072 1024) j 0 ≡ get_or (range_of b 3072 1024) j 0
    byte j from upto =
        let offset : ℕ = j - 16 * (i / 32 / 4) in
        let within : j < 1024 = omega (arith, small, upto) in
        let place : 16 * (192 + i / 32 / 4) + offset ≡ 3072 + j = omega (arith, from, upto) in
        in_bits a j within ∙ subst (λ (k : ℕ). get_or a k 0 ≡ get_or b k 0) place (same offset (omega (arith, from, upto))) ∙ sym (in_bits b j within)

says_torn : (pl : Places) (p s : ℕ) (a b : List ℕ) → length a ≡ 4096 → s ≤ 8 → SaysSizes pl p a → SaysSizes pl p b → SaysSizes pl p (torn s a b)
says_torn pl p s a b size h one two = record {
  blocks = λ at. number 0 8 (omega arith) (one.blocks at) (two.blocks at) (torn_at s a b size h 0 (omega arith));
  iags = λ at. number 4 4 (omega arith) (one.iags at) (two.iags at) (torn_at s a b size h 0 (omega arith));
  past = λ k i low used at beyond small. bit i small (one.past k i low used at beyond small) (two.past k i low used at beyond small) (torn_at s a b size h (192 + i / 32 / 4) (omega (arith, small)));
}
  where
    number : (at width : ℕ) {n : ℕ} → at + width ≤ 16 → field_of a at width ≡ n → field_of b at width ≡ n → ((k : ℕ) × SameCell (torn s a b) (which a b k) 0) → field_of (torn s a b) at width ≡ n
    number at width few first second (zero, same) = field_in (torn s a b) a at width few same ∙ first
    number at width few first second (suc k, same) = field_in (torn s a b) b at width few same ∙ second

    bit : (i : ℕ) → i < 8192 → is_taken (range_of a 3072 1024) i ≡ true → is_taken (range_of b 3072 1024) i ≡ true → ((k : ℕ) × SameCell (torn s a b) (which a b k) (192 + i / 32 / 4)) → is_taken (range_of (torn s a b) 3072 1024) i ≡ true
    bit i small first second (zero, same) = bit_same (torn s a b) a i small same ∙ first
    bit i small first second (suc k, same) = bit_same (torn s a b) b i small same ∙ second

-- ---- pages

says_canonical : (pl : Places) (s : Pages) (p : ℕ) {items : _} (a : List ℕ) → IsCanonicalPage pl s items p a → SaysSizes pl p a
says_canonical pl s p a is = record {
  blocks = λ at. (let first = is.block_map 0 refl at in sym first.held.mapsize ∙ first.canonical.mapsize);
  iags = λ at. (let control = is.inode_map 0 (omega arith) at in sym control.held.nextiag ∙ control.canonical.nextiag);
  past = λ k i low used at beyond small. (
      let dmap = (is.block_map (suc (suc (suc (suc k)))) used at).dmap in
      let number = dmap.number in
      dmap.canonical.same i ∙ dmap.canonical.past i (omega (arith, number, beyond)) small);
}

-- another page says nothing
says_none : (pl : Places) (p : ℕ) → is_map_page pl p ≡ false → (a : List ℕ) → SaysSizes pl p a
says_none pl p other a = record {
  blocks = λ at. absurd (true≢false (sym (ap (is_map_page pl) (sym at) ∙ block_page pl 0 (omega arith) refl) ∙ other));
  iags = λ at. absurd (true≢false (sym (ap (is_map_page pl) (sym at) ∙ inode_page pl 0 (omega arith)) ∙ other));
  past = λ k i low used at beyond small. absurd (true≢false (sym (ap (is_map_page pl) (sym at) ∙ block_page pl (suc (suc (suc (suc k)))) low used) ∙ other));
}

written : (P : List ℕ → Type 0) (bytes : List ℕ) (page : PageHistory) → P bytes → OfAllContents P page → OfAllContents P (page_written bytes page)
written P bytes page new old = record { seen = new; each = all_contents P page bytes (bytes ∷ []) old.each (one_content P bytes new) }

failed : (P : List ℕ → Type 0) (bytes : List ℕ) (s : ℕ) (page : PageHistory) → P (torn s bytes page.seen) → P bytes → OfAllContents P page → OfAllContents P (page_failed bytes s page)
failed P bytes s page left new old = record { seen = left; each = all_contents P page (torn s bytes page.seen) (torn s bytes page.seen ∷ bytes ∷ []) old.each (two_contents P (torn s bytes page.seen) bytes left new) }

rested : (P : List ℕ → Type 0) (bytes : List ℕ) → P bytes → OfAllContents P (record { seen = bytes; stable = bytes; writes = [] })
rested P bytes h = record { seen = h; each = λ j low. at j low }
  where
    at : (j : ℕ) → j ≤ 0 → P (get_or (bytes ∷ []) j [])
    at zero low = h
    at (suc j) low = absurd (omega (arith, low))

-- ---- steps

module _ (r : Readers) (pl : Places) (changes : Pages → List Edit → ℕ → Bool) (areas : AreInAreas pl) where
  abbrev f : Face
  f = face_of r pl changes

  laws : IsFace f
  laws = is_face r pl changes areas

  module _ (core : Core) (sound : IsSound f core) (keeps : KeepsSizes pl core) where
    told_within : core.told ≤ count core
    told_within = let counts = sound.counts in let a = counts.told_durable in let b = counts.durable_taken in let c = counts.taken_appended in omega (arith, a, b, c)

    told_says : (q : ℕ) → SaysSizes pl q (told_page core q)
    told_says q = by (cases_Bool (is_map_page pl q))
      where
        by : (is_map_page pl q ≡ true) ⊎ (is_map_page pl q ≡ false) → SaysSizes pl q (told_page core q)
        by (inl e) = let canonical = canonical_image f laws core sound core.told told_within q e in says_canonical pl canonical.pages q (told_page core q) canonical.map
        by (inr e) = says_none pl q e (told_page core q)

    -- data is written over no page of a map
    data_other : (q : ℕ) → MayWrite (owner_at f core q) core.told (count core) → is_map_page pl q ≡ false
    data_other q may = by (cases_Bool (is_map_page pl q))
      where
        not_logged : MayWrite (owner_at f core q) core.told (count core) → matters_at f core q (count core) ≡ false
        not_logged (inl (k, e)) = ap (λ (o : Option Owner). is_logged o) e
        not_logged (inr (e, free)) = ap (λ (o : Option Owner). is_logged o) e

        by : (is_map_page pl q ≡ true) ⊎ (is_map_page pl q ≡ false) → is_map_page pl q ≡ false
        by (inl e) = absurd (true≢false (sym (laws.area (image core (count core)) q e) ∙ not_logged may))
        by (inr e) = e

    -- another page is put
    put_says : (q : ℕ) (slot : Slot) → OfAllContents (SaysSizes pl q) slot.block.pages → (p : ℕ) → OfAllContents (SaysSizes pl p) (if p == q then slot else core.slots p).block.pages
    put_says q slot new p = by (cases_Bool (p == q))
      where
        by : ((p == q) ≡ true) ⊎ ((p == q) ≡ false) → OfAllContents (SaysSizes pl p) (if p == q then slot else core.slots p).block.pages
        by (inl e) =
            subst (λ (x : Slot). OfAllContents (SaysSizes pl p) x.block.pages) (sym (cond-true (p == q) slot (core.slots p) e))
            (subst (λ (x : ℕ). OfAllContents (SaysSizes pl x) slot.block.pages) (sym (eqb-true p q e)) new)
        by (inr e) = subst (λ (x : Slot). OfAllContents (SaysSizes pl p) x.block.pages) (sym (cond-false (p == q) slot (core.slots p) e)) (keeps p)

    abbrev pages_at : ℕ → PageHistory
    pages_at q = (core.slots q).block.pages

    step : (s : Step) → IsAllowed f core s → KeepsSizes pl (does f core s)
    step (Write q bytes) allowed = put_says q _ (written (SaysSizes pl q) bytes (pages_at q) (says_none pl q (data_other q allowed.1) bytes) (keeps q))
    step (WriteFails q bytes sectors) allowed =
        let other = data_other q allowed.2 in
        put_says q _ (failed (SaysSizes pl q) bytes sectors (pages_at q) (says_none pl q other (torn sectors bytes (pages_at q).seen)) (says_none pl q other bytes) (keeps q))
    step (Append tx t) allowed = λ p. by p (f.touches (image core (count core)) tx p)
      where
        by : (p : ℕ) (b : Bool) → OfAllContents (SaysSizes pl p) (if b then dirtied (suc (count core)) (core.slots p).block else (core.slots p).block).pages
        by p true = keeps p
        by p false = keeps p
    step Take allowed = keeps
    step GroupWrite allowed = keeps
    step Told allowed = keeps
    step (Home q) allowed = put_says q _ (written (SaysSizes pl q) (told_page core q) (pages_at q) (told_says q) (keeps q))
    step (HomeFails q sectors) allowed =
        let size = size_image f laws core sound core.told told_within q in
        put_says q _ (failed (SaysSizes pl q) (told_page core q) sectors (pages_at q) (says_torn pl q sectors (told_page core q) (pages_at q).seen size allowed.0 (told_says q) (keeps q).seen) (told_says q) (keeps q))
    step LowSync allowed = λ p. rested (SaysSizes pl p) (pages_at p).seen (keeps p).seen
    step (SyncPoint c) allowed = keeps

  all_steps : (core : Core) (steps : List Step) → IsSound f core → AreAllowed f core steps → KeepsSizes pl core → KeepsSizes pl (after_steps f core steps)
  all_steps core [] sound allowed keeps = keeps
  all_steps core (s ∷ rest) sound allowed keeps = all_steps (does f core s) rest (kept_step f laws core s allowed.0 sound) allowed.1 (step core sound keeps s allowed.0)

-- ---- a crash

left_says : (r : Readers) (pl : Places) (changes : Pages → List Edit → ℕ → Bool) (core : Core) (low : Pages) → IsSound (face_of r pl changes) core → KeepsSizes pl core → IsLeft core low → (p : ℕ) → SaysSizes pl p (low p)
left_says r pl changes core low sound keeps left p =
    let page = left p in
    let pages = (core.slots p).block.pages in
    let base : page.base ≤ length pages.writes = let a = page.older in let b = page.there in omega (arith, a, b) in
    subst (SaysSizes pl p) (sym page.content)
    (says_torn pl p page.sectors (content_of pages page.top) (content_of pages page.base) ((sound.slots p).ok.sizes page.top page.there) page.within ((keeps p).each page.top page.there) ((keeps p).each page.base base))

pub sizes_law : SizesLaw
sizes_law = record {
  start = λ r pl changes low image says p. rested (SaysSizes pl p) (low p) (says p);
  steps = λ r pl changes core steps areas sound allowed keeps. all_steps r pl changes areas core steps sound allowed keeps;
  left = left_says;
}
