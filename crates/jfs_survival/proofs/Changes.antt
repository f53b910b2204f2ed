-- Each change of both halves is a step of the core, or none.
use Rattle.std.proofs.Common.{◌≡◌, ◌≢◌, ◌<◌, ◌≤◌, ◌⊎◌, ◌+◌, ◌-◌, ◌&&◌, ◌==◌, ℕ, zero, suc, Bool, true, false, not, if◌then◌else◌, List, [], ◌∷◌, ◌++◌, length, map, set, get_or, slice_get, Option, Some, None, IsSome, refl, sym, ap, ◌∙◌, subst, inl, inr, arith}
use Rattle.std.proofs.lemmas.Bool.{cases_Bool, cases_eq, cases_lt, eq-eqb, eqb-true, ne_eqb, cond-false}
use Rattle.std.proofs.lemmas.List.{length-map, map-append, length-set, get_or-set_same, get_or-set_other, get_or-map, length_push, get_or_append_left, get_or_push}
use Rattle.std.proofs.lemmas.Option.{slice_get_within, get_or_from_slice_get}
use Rattle.jfs_disk.specs.Image.{Image, page_of}
use Rattle.jfs_disk.specs.Crash.{PageHistory, torn}
use Rattle.jfs_disk.specs.declared.disk.Fault.{Fault}
use Rattle.jfs_disk.proofs.Tearing.{length-torn}
use Rattle.jfs_ranges.specs.declared.edit.Edit.{Edit}
use Rattle.jfs_ranges.specs.Apply.{apply_tx, touches_tx}
use Rattle.jfs_face.specs.recovery.specs.crash_core.specs.declared.block.Span.{Span}
use Rattle.jfs_face.specs.recovery.specs.crash_core.specs.Core.{Block, no_block}
use Rattle.jfs_face.specs.recovery.specs.crash_core.specs.Step.{EndsBy, BeginsPast, IsSynced, dirtied, marked, sent_home, failed_home, synced, halted_by}
use Rattle.jfs_face.specs.recovery.specs.crash_core.specs.Sound.{LiesIn}
use Rattle.jfs_face.specs.recovery.specs.crash_core.proofs.Bytes.{length-apply_tx, length-pages_after, page_of-pages_after}
use Rattle.jfs_face.specs.recovery.specs.crash_core.proofs.Bounds.{length-marked}
use Rattle.jfs_logged.specs.halves.specs.Entry.{Happened, edits}
use Rattle.jfs_logged.specs.halves.specs.Marks.{frees_page}
use Rattle.jfs_logged.specs.halves.specs.Half.{Waiting, VolumeHalf, Halves, block_in, page_in, is_open}
use Rattle.jfs_logged.specs.halves.specs.Change.{Enters, Takes, Tells, HandsOut, GoesHome, Tears, Drops, Writes, WriteTears, Stops, LogStops, Syncs, Points, Knows}
use Rattle.jfs_logged.specs.halves.specs.Both.{BothChange, Changes, GroupIsWritten, GroupFails, changed, Fits}
use Rattle.jfs_face.specs.recovery.specs.kinds.specs.Owner.{is_logged}
use Rattle.jfs_face.specs.recovery.specs.Face.{Face, IsFace, Pages, matters}
use Rattle.jfs_face.specs.recovery.specs.Core.{Core, Slot, Done, Step, nothing, entry, count, image, newest, matters_at, owner_at, told_page, dropped, put, data_slot, data_failed_slot, home_slot, home_failed_slot, MayWrite, IsAllowed, does, AreAllowed, after_steps, appended}
use Rattle.jfs_face.specs.recovery.specs.Core.Step.{Write, WriteFails, Append, Take, GroupWrite, Told, Home, HomeFails, LowSync, SyncPoint}
use Rattle.jfs_face.specs.recovery.specs.Sound.{IsSound, Cares}
use Rattle.jfs_face.specs.recovery.proofs.Images.{size_image}
use Rattle.jfs_face.specs.recovery.proofs.Kept.{kept_step, longer_image, last_image}
use Rattle.jfs_survival.specs.Stands.{IsBlockOf, lines_at, IsUntouched, IsCoreOf}
use Rattle.jfs_survival.specs.Played.{Joins, Matters, IsFree, IsData, IsMapHome, MapsAreSynced, step_if, IsPlayed}
use Rattle.jfs_survival.proofs.Blocks.{moved, no_some, none_is, steady, last_within, last_now, entered, acknowledged, gone_home, torn_home, map_home, map_torn, forgotten, data_put, data_torn, free_home, free_torn, settled}
use Rattle.jfs_survival.proofs.Lines.{ReadsLines, freed, frees, stays_free, shown_after}

-- the steps are allowed, and lead to the core of the halves after the change
pub record IsStepOf (f : Face) (core : Core) (later : Halves) (list : List Step) : Type 0 where
  pub allowed : AreAllowed f core list
  pub core_is : IsCoreOf f later (after_steps f core list)

-- ---- counts

-- the core has as many entries as the half
pub counted : (f : Face) (both : Halves) (core : Core) → IsCoreOf f both core → count core ≡ length both.volume.history
counted f both core is = sym (length-map core.history (λ (d : Done). d.tx)) ∙ ap (λ (txs : List (List Edit)). length txs) is.history ∙ length-map both.volume.history edits

told_within : (f : Face) (core : Core) → IsSound f core → core.told ≤ count core
told_within f core sound = let c = sound.counts in omega (arith, c.told_durable, c.durable_taken, c.taken_appended)

-- one step, where there is one
single : (f : Face) (core : Core) (later : Halves) (s : Step) → IsAllowed f core s → IsCoreOf f later (does f core s) → IsStepOf f core later (s ∷ [])
single f core later s allowed is = record { allowed = (allowed, tt); core_is = is }

no_step : (f : Face) (core : Core) (later : Halves) → IsCoreOf f later core → IsStepOf f core later []
no_step f core later is = record { allowed = tt; core_is = is }

-- no difference, or one
same_counts : (a b c d : ℕ) → not (a == b && c == d) ≡ false → (a ≡ b) × (c ≡ d)
same_counts a b c d e = at (cases_Bool (a == b)) (cases_Bool (c == d))
  where
    at : (a == b ≡ true) ⊎ (a == b ≡ false) → (c == d ≡ true) ⊎ (c == d ≡ false) → (a ≡ b) × (c ≡ d)
    at (inl p) (inl q) = (eqb-true a b p, eqb-true c d q)
    at (inl p) (inr q) = let no : true ≡ false = rw (p, q) at e in absurd (cc)
    at (inr p) q = let no : true ≡ false = rw p at e in absurd (cc)

group_closed : (taken points : ℕ) → not (taken == taken && points == points) ≡ false
group_closed taken points = rw (eq-eqb taken taken refl, eq-eqb points points refl) refl

pub put_same : (p : ℕ) (slot : Slot) (slots : ℕ → Slot) → put p slot slots p ≡ slot
put_same p slot slots = rw (eq-eqb p p refl) refl

pub put_other : (p q : ℕ) (slot : Slot) (slots : ℕ → Slot) → q ≢ p → put p slot slots q ≡ slots q
put_other p q slot slots ne = rw (ne_eqb q p ne) refl

-- a page whose entries are all acknowledged changes with none that isn't
not_there : {A : Type 0} (j told : ℕ) (dirty : Option Span) → EndsBy told dirty → told ≤ j → LiesIn (suc j) dirty ⊎ A → A
not_there j told None ends low (inl lies) = absurd lies
not_there j told None ends low (inr a) = a
not_there j told (Some span) ends low (inl lies) = absurd (omega (arith, lies.1, ends))
not_there j told (Some span) ends low (inr a) = a

own_ends : (told : ℕ) (dirty : Option Span) (own : Span) → dirty ≡ Some own → EndsBy told dirty → own.last ≤ told
own_ends told None own e ends = no_some own e
own_ends told (Some span) own e ends = let same : span ≡ own = cc in let d = ap (λ (x : Span). x.last) same in omega (arith, d, ends)

past_none : (n : ℕ) (dirty : Option Span) → dirty ≡ None → BeginsPast n dirty
past_none n dirty e = rw e tt

module _ (f : Face) (laws : IsFace f) (reads : ReadsLines f) (both : Halves) (core : Core) (is : IsCoreOf f both core) where
  abbrev half : VolumeHalf
  half = both.volume

  abbrev n : ℕ
  n = count core

  m_of : (p : ℕ) → ℕ → Bool
  m_of p = matters_at f core p

  sound_after : (s : Step) → IsAllowed f core s → IsSound f (does f core s)
  sound_after s allowed = kept_step f laws core s allowed is.sound

  n_is : n ≡ length half.history
  n_is = counted f both core is

  low_count : core.told ≤ n
  low_count = told_within f core is.sound

  last : (p : ℕ) (span : Span) → (core.slots p).block.dirty ≡ Some span → matters_at f core p span.last ≡ matters_at f core p n
  last p = last_now (matters_at f core p) (Cares f p) (λ k. image core k p) n core.told (core.slots p) (is.sound.slots p)

  -- ---- what the core doesn't see

  other : (handed known : ℕ) (waiting : Waiting) (low halted log_halted : Option Fault)
      → IsCoreOf f (record { volume = record half { handed = handed; known = known; waiting = waiting; low_halted = low; halted = halted }; log = record both.log { log_halted = log_halted } }) core
  other handed known waiting low halted log_halted = record {
    sound = is.sound;
    history = is.history;
    taken = is.taken;
    durable = is.durable;
    told = is.told;
    grouped = is.grouped;
    syncpoints = is.syncpoints;
    points_taken = is.points_taken;
    points_stable = is.points_stable;
    number = is.number;
    each = is.each;
    past = is.past;
  }

  -- ---- one block

  with_block : (p : ℕ) → p < length half.blocks → (slots : ℕ → Slot) (block : Block) (pages : Image) (low halted : Option Fault) → length pages ≡ length half.shown.pages → ((q : ℕ) → q ≢ p → page_of pages q ≡ page_in half q)
      → ((q : ℕ) → q ≢ p → slots q ≡ core.slots q) → IsSound f (record core { slots = slots }) → IsBlockOf (f.is_map p) (matters_at f core p) (lines_at core p) n (image core n p) (slots p) block (page_of pages p)
      → IsCoreOf f (record both { volume = record half { blocks = set half.blocks p block; shown = record half.shown { pages = pages }; low_halted = low; halted = halted } }) (record core { slots = slots })
  with_block p there slots block pages low halted number others elsewhere sound here = record {
    sound = sound;
    history = is.history;
    taken = is.taken;
    durable = is.durable;
    told = is.told;
    grouped = is.grouped;
    syncpoints = is.syncpoints;
    points_taken = is.points_taken;
    points_stable = is.points_stable;
    number = number ∙ is.number ∙ sym (length-set half.blocks p block);
    each = λ q l. at q (let s = length-set half.blocks p block in omega (arith, l, s)) (cases_eq q p);
    past = λ q l. (let s = length-set half.blocks p block in let far : length half.blocks ≤ q = omega (arith, l, s) in
        subst (λ (x : Slot). IsUntouched x.block) (sym (elsewhere q (λ e. omega (arith, e, far, there)))) (is.past q far));
  }
    where
      at : (q : ℕ) → q < length half.blocks → (q ≡ p) ⊎ (q ≡ p → ⊥) → IsBlockOf (f.is_map q) (matters_at f core q) (lines_at core q) n (image core n q) (slots q) (get_or (set half.blocks p block) q no_block) (page_of pages q)
      at q l (inl e) = subst (λ (j : ℕ). IsBlockOf (f.is_map j) (matters_at f core j) (lines_at core j) n (image core n j) (slots j) (get_or (set half.blocks p block) j no_block) (page_of pages j)) (sym e)
          (moved (f.is_map p) (matters_at f core p) (lines_at core p) n (image core n p) (slots p) (slots p) block (get_or (set half.blocks p block) p no_block) (page_of pages p) (page_of pages p) refl (get_or-set_same half.blocks p block no_block there) refl here)
      at q l (inr ne) = moved (f.is_map q) (matters_at f core q) (lines_at core q) n (image core n q) (core.slots q) (slots q) (block_in half q) (get_or (set half.blocks p block) q no_block) (page_in half q) (page_of pages q)
          (elsewhere q ne) (get_or-set_other half.blocks p q block no_block ne) (others q ne) (is.each q l)

  -- the core's block is another one
  put_block : (p : ℕ) → p < length half.blocks → (slot : Slot) (block : Block) (pages : Image) (low halted : Option Fault) → length pages ≡ length half.shown.pages → ((q : ℕ) → q ≢ p → page_of pages q ≡ page_in half q)
      → IsSound f (record core { slots = put p slot core.slots }) → IsBlockOf (f.is_map p) (matters_at f core p) (lines_at core p) n (image core n p) slot block (page_of pages p)
      → IsCoreOf f (record both { volume = record half { blocks = set half.blocks p block; shown = record half.shown { pages = pages }; low_halted = low; halted = halted } }) (record core { slots = put p slot core.slots })
  put_block p there slot block pages low halted number others sound here = with_block p there (put p slot core.slots) block pages low halted number others (λ q ne. put_other p q slot core.slots ne) sound
      (moved (f.is_map p) (matters_at f core p) (lines_at core p) n (image core n p) slot (put p slot core.slots p) block block (page_of pages p) (page_of pages p) (put_same p slot core.slots) refl refl here)

  -- what is shown of one page is another one
  set_size : (p : ℕ) (bytes : List ℕ) → length (set half.shown.pages p bytes) ≡ length half.shown.pages
  set_size p bytes = length-set half.shown.pages p bytes

  set_others : (p : ℕ) (bytes : List ℕ) (q : ℕ) → q ≢ p → page_of (set half.shown.pages p bytes) q ≡ page_in half q
  set_others p bytes q ne = get_or-set_other half.shown.pages p q bytes [] ne

  set_here : (p : ℕ) (bytes : List ℕ) → p < length half.blocks → page_of (set half.shown.pages p bytes) p ≡ bytes
  set_here p bytes there = get_or-set_same half.shown.pages p bytes [] (let s = is.number in omega (arith, s, there))

  shown_now : (p : ℕ) (bytes : List ℕ) (slot : Slot) (block : Block) → p < length half.blocks → IsBlockOf (f.is_map p) (matters_at f core p) (lines_at core p) n (image core n p) slot block bytes
      → IsBlockOf (f.is_map p) (matters_at f core p) (lines_at core p) n (image core n p) slot block (page_of (set half.shown.pages p bytes) p)
  shown_now p bytes slot block there h =
      moved (f.is_map p) (matters_at f core p) (lines_at core p) n (image core n p) slot slot block block bytes (page_of (set half.shown.pages p bytes) p) refl refl (set_here p bytes there) h

  -- ---- pages go home

  -- a block that the half holds changes of isn't a map's
  not_map : (p : ℕ) → p < length half.blocks → IsSome (block_in half p).dirty → f.is_map p ≡ false
  not_map p l some = at (cases_Bool (f.is_map p))
    where
      at : (f.is_map p ≡ true) ⊎ (f.is_map p ≡ false) → f.is_map p ≡ false
      at (inl this) = none_is (block_in half p).dirty ((is.each p l).map_clean this) some
      at (inr not_this) = not_this

  record IsHome (p : ℕ) : Type 0 where
    dirty : IsSome (core.slots p).block.dirty
    ends : EndsBy core.told (core.slots p).block.dirty
    told_is : told_page core p ≡ page_in half p

  home_of : (p : ℕ) → p < length half.blocks → IsSome (block_in half p).dirty → EndsBy half.told (block_in half p).dirty → Matters f core p → IsHome p
  home_of p l some half_ends there = record {
    dirty = b.dirty page there some;
    ends = ends;
    told_is = sym (steady (λ k. image core k p) core.told (n - core.told) n (omega (arith, low_count)) (λ k low h. (not_there k core.told (core.slots p).block.dirty ends low ((is.sound.slots p).ok.later k low h)).0)) ∙ sym (b.shown_is page there);
  }
    where
      b : IsBlockOf (f.is_map p) (matters_at f core p) (lines_at core p) n (image core n p) (core.slots p) (block_in half p) (page_in half p)
      b = is.each p l

      page : f.is_map p ≡ false
      page = not_map p l some

      ends_at : (d : Option Span) → (core.slots p).block.dirty ≡ d → EndsBy core.told d
      ends_at None e = tt
      ends_at (Some span) e =
          let later = b.later page span e (last p span e ∙ there) in
          let own = own_ends half.told (block_in half p).dirty later.0 later.1 half_ends in
          let told = is.told in
          omega (arith, later.2, own, told)

      ends : EndsBy core.told (core.slots p).block.dirty
      ends = ends_at (core.slots p).block.dirty refl

  goes_home : (p : ℕ) → Fits both (Changes (GoesHome p)) → Matters f core p → IsStepOf f core (changed both (Changes (GoesHome p))) (Home p ∷ [])
  goes_home p fits there =
      let h = home_of p fits.0.0 fits.0.1 fits.0.2 there in
      single f core (changed both (Changes (GoesHome p))) (Home p) (h.dirty, h.ends)
      (put_block p fits.0.0 (home_slot (told_page core p) (core.slots p)) (sent_home (page_in half p) (block_in half p)) half.shown.pages half.low_halted half.halted refl (λ q ne. refl)
      (sound_after (Home p) (h.dirty, h.ends))
      (gone_home (f.is_map p) (matters_at f core p) (lines_at core p) n (image core n p) (core.slots p) (block_in half p) (page_in half p) (is.each p fits.0.0) (page_in half p) (told_page core p) h.told_is fits.0.1))

  -- where data may be written, the page doesn't matter
  data_gone : (p : ℕ) → MayWrite (owner_at f core p) core.told n → matters_at f core p n ≡ false
  data_gone p (inl there) = ap is_logged there.1
  data_gone p (inr none) = ap is_logged none.0

  free_goes_home : (p : ℕ) → Fits both (Changes (GoesHome p)) → IsFree f core p → IsStepOf f core (changed both (Changes (GoesHome p))) (Write p (page_in half p) ∷ [])
  free_goes_home p fits free =
      let page = not_map p fits.0.0 fits.0.1 in
      let size = (is.each p fits.0.0).size page in
      single f core (changed both (Changes (GoesHome p))) (Write p (page_in half p)) (size, free)
      (put_block p fits.0.0 (data_slot n (page_in half p) (core.slots p)) (sent_home (page_in half p) (block_in half p)) half.shown.pages half.low_halted half.halted refl (λ q ne. refl)
      (sound_after (Write p (page_in half p)) (size, free))
      (free_home (f.is_map p) (matters_at f core p) (lines_at core p) n (image core n p) (core.slots p) (block_in half p) (page_in half p) (is.each p fits.0.0) (data_gone p free) (last p) (page_in half p) page fits.0.1))

  free_tears : (p sectors : ℕ) (fault : Fault) → Fits both (Changes (Tears p sectors fault)) → IsFree f core p → IsStepOf f core (changed both (Changes (Tears p sectors fault))) (WriteFails p (page_in half p) sectors ∷ [])
  free_tears p sectors fault fits free =
      let size = (is.each p fits.0.1.0).size (not_map p fits.0.1.0 fits.0.1.1) in
      single f core (changed both (Changes (Tears p sectors fault))) (WriteFails p (page_in half p) sectors) (fits.0.0, size, free)
      (put_block p fits.0.1.0 (data_failed_slot n (page_in half p) sectors (core.slots p)) (failed_home (page_in half p) sectors (block_in half p)) half.shown.pages (halted_by fault half.low_halted) (halted_by fault half.halted) refl (λ q ne. refl)
      (sound_after (WriteFails p (page_in half p) sectors) (fits.0.0, size, free))
      (free_torn (f.is_map p) (matters_at f core p) (lines_at core p) n (image core n p) (core.slots p) (block_in half p) (page_in half p) (is.each p fits.0.1.0) (data_gone p free) (last p) (page_in half p) sectors))

  tears : (p sectors : ℕ) (fault : Fault) → Fits both (Changes (Tears p sectors fault)) → Matters f core p → IsStepOf f core (changed both (Changes (Tears p sectors fault))) (HomeFails p sectors ∷ [])
  tears p sectors fault fits there =
      let h = home_of p fits.0.1.0 fits.0.1.1 fits.0.1.2 there in
      single f core (changed both (Changes (Tears p sectors fault))) (HomeFails p sectors) (fits.0.0, (h.dirty, h.ends))
      (put_block p fits.0.1.0 (home_failed_slot (told_page core p) sectors (core.slots p)) (failed_home (page_in half p) sectors (block_in half p)) half.shown.pages (halted_by fault half.low_halted) (halted_by fault half.halted) refl (λ q ne. refl)
      (sound_after (HomeFails p sectors) (fits.0.0, (h.dirty, h.ends)))
      (torn_home (f.is_map p) (matters_at f core p) (lines_at core p) n (image core n p) (core.slots p) (block_in half p) (page_in half p) (is.each p fits.0.1.0) (page_in half p) (told_page core p) sectors h.told_is))

  -- ---- pages that don't matter

  seen_size : (p : ℕ) → p < length half.blocks → length (block_in half p).pages.seen ≡ 4096
  seen_size p l = ap (λ (x : PageHistory). length x.seen) (sym (is.each p l).written) ∙ (is.sound.slots p).ok.seen_size

  entry_is : (k : ℕ) (h : Happened) → slice_get half.history k ≡ Some h → (k < n) × (entry core k ≡ edits h)
  entry_is k h e =
      let there = slice_get_within half.history k h e in
      let within : k < n = omega (arith, there, n_is) in (
        within,
        sym (get_or-map (λ (d : Done). d.tx) core.history k nothing [] within) ∙ ap (λ (txs : List (List Edit)). get_or txs k []) is.history ∙ get_or-map edits half.history k h [] there
            ∙ ap edits (get_or_from_slice_get half.history k h h e),
      )

  -- from an entry that frees a page on, it doesn't matter, where no later one has lines of it
  free_since : (p k : ℕ) → f.is_map p ≡ false → k < n → frees_page p (entry core k) ≡ true → ((j : ℕ) → suc k ≤ j → j < n → lines_at core p j ≡ false) → (d i : ℕ) → i ≡ suc k + d → i ≤ n → matters_at f core p i ≡ false
  free_since p k page l h none zero i e low =
      let at : i ≡ suc k = omega (arith, e) in
      ap (matters_at f core p) at ∙ frees f reads (image core k) (entry core k) (image core (suc k)) p (is.sound.logged k p l page) h
  free_since p k page l h none (suc d) i e low =
      let j : ℕ = suc k + d in
      let at : i ≡ suc j = omega (arith, e) in
      let within : j < n = omega (arith, at, low) in
      ap (matters_at f core p) at ∙ stays_free f reads (image core j) (entry core j) (image core (suc j)) p (is.sound.logged j p within page) (free_since p k page l h none d j refl (omega (arith, within))) (none j (omega arith) within)

  drops : (p : ℕ) → Fits both (Changes (Drops p)) → IsStepOf f core (changed both (Changes (Drops p))) []
  drops p fits = no_step f core (changed both (Changes (Drops p)))
      (with_block p fits.0.there core.slots (record (block_in half p) { dirty = None }) (set half.shown.pages p (block_in half p).pages.seen) half.low_halted half.halted
      (set_size p (block_in half p).pages.seen) (set_others p (block_in half p).pages.seen) (λ q ne. refl) is.sound
      (shown_now p (block_in half p).pages.seen (core.slots p) (record (block_in half p) { dirty = None }) fits.0.there
      (forgotten (f.is_map p) (matters_at f core p) (lines_at core p) n (image core n p) (core.slots p) (block_in half p) (page_in half p) (is.each p fits.0.there) gone (last p) (block_in half p).pages.seen (seen_size p fits.0.there))))
    where
      page : f.is_map p ≡ false
      page = not_map p fits.0.there fits.0.dirty

      own_of : (d : Option Span) → IsSome d → (own : Span) × (d ≡ Some own)
      own_of None some = none_is None refl some
      own_of (Some own) some = (own, refl)

      gone : matters_at f core p n ≡ false
      gone =
          let by = entry_is fits.0.before fits.0.by_entry fits.0.is in
          let own = own_of (block_in half p).dirty fits.0.dirty in
          let ends = own_ends (suc fits.0.before) (block_in half p).dirty own.0 own.1 fits.0.last in
          let within = by.0 in
          free_since p fits.0.before page by.0 (ap (frees_page p) by.1 ∙ fits.0.frees) (λ j low h. (is.each p fits.0.there).quiet own.0 own.1 j (omega (arith, ends, low)) h)
          (n - suc fits.0.before) n (omega (arith, within)) (omega arith)

  writes_data : (p : ℕ) (bytes : List ℕ) → Fits both (Changes (Writes p bytes)) → IsData f core p bytes → IsStepOf f core (changed both (Changes (Writes p bytes))) (Write p bytes ∷ [])
  writes_data p bytes fits put_is =
      single f core (changed both (Changes (Writes p bytes))) (Write p bytes) (put_is.size, put_is.may)
      (put_block p fits.0.there (data_slot n bytes (core.slots p)) (sent_home bytes (block_in half p)) (set half.shown.pages p bytes) half.low_halted half.halted (set_size p bytes) (set_others p bytes)
      (sound_after (Write p bytes) (put_is.size, put_is.may))
      (shown_now p bytes (data_slot n bytes (core.slots p)) (sent_home bytes (block_in half p)) fits.0.there
      (data_put (f.is_map p) (matters_at f core p) (lines_at core p) n (image core n p) (core.slots p) (block_in half p) (page_in half p) (is.each p fits.0.there) (data_gone p put_is.may) (last p) bytes put_is.size fits.0.clean)))

  abbrev torn_now : ℕ → List ℕ → ℕ → List ℕ
  torn_now p bytes sectors = torn sectors bytes (block_in half p).pages.seen

  tears_data : (p : ℕ) (bytes : List ℕ) (sectors : ℕ) (fault : Fault) → Fits both (Changes (WriteTears p bytes sectors fault)) → IsData f core p bytes
      → IsStepOf f core (changed both (Changes (WriteTears p bytes sectors fault))) (WriteFails p bytes sectors ∷ [])
  tears_data p bytes sectors fault fits put_is =
      single f core (changed both (Changes (WriteTears p bytes sectors fault))) (WriteFails p bytes sectors) (fits.0.0, put_is.size, put_is.may)
      (put_block p fits.0.1.there (data_failed_slot n bytes sectors (core.slots p)) (failed_home bytes sectors (block_in half p)) (set half.shown.pages p (torn_now p bytes sectors)) (halted_by fault half.low_halted) (halted_by fault half.halted)
      (set_size p (torn_now p bytes sectors)) (set_others p (torn_now p bytes sectors))
      (sound_after (WriteFails p bytes sectors) (fits.0.0, put_is.size, put_is.may))
      (shown_now p (torn_now p bytes sectors) (data_failed_slot n bytes sectors (core.slots p)) (failed_home bytes sectors (block_in half p)) fits.0.1.there
      (data_torn (f.is_map p) (matters_at f core p) (lines_at core p) n (image core n p) (core.slots p) (block_in half p) (page_in half p) (is.each p fits.0.1.there) (data_gone p put_is.may) (last p) bytes sectors (torn_now p bytes sectors)
      (length-torn sectors bytes (block_in half p).pages.seen fits.0.0 put_is.size (seen_size p fits.0.1.there)))))

  -- ---- pages of the maps

  writes_map : (p : ℕ) (bytes : List ℕ) → Fits both (Changes (Writes p bytes)) → IsMapHome f core p bytes → IsStepOf f core (changed both (Changes (Writes p bytes))) (Home p ∷ [])
  writes_map p bytes fits home =
      single f core (changed both (Changes (Writes p bytes))) (Home p) (home.dirty, home.told)
      (put_block p fits.0.there (home_slot (told_page core p) (core.slots p)) (sent_home bytes (block_in half p)) (set half.shown.pages p bytes) half.low_halted half.halted (set_size p bytes) (set_others p bytes)
      (sound_after (Home p) (home.dirty, home.told))
      (map_home (f.is_map p) (matters_at f core p) (lines_at core p) n (image core n p) (core.slots p) (block_in half p) (page_in half p) (is.each p fits.0.there) bytes (told_page core p) (page_of (set half.shown.pages p bytes) p) (sym home.bytes_are) home.is_map))

  tears_map : (p : ℕ) (bytes : List ℕ) (sectors : ℕ) (fault : Fault) → Fits both (Changes (WriteTears p bytes sectors fault)) → IsMapHome f core p bytes
      → IsStepOf f core (changed both (Changes (WriteTears p bytes sectors fault))) (HomeFails p sectors ∷ [])
  tears_map p bytes sectors fault fits home =
      single f core (changed both (Changes (WriteTears p bytes sectors fault))) (HomeFails p sectors) (fits.0.0, (home.dirty, home.told))
      (put_block p fits.0.1.there (home_failed_slot (told_page core p) sectors (core.slots p)) (failed_home bytes sectors (block_in half p)) (set half.shown.pages p (torn_now p bytes sectors)) (halted_by fault half.low_halted) (halted_by fault half.halted)
      (set_size p (torn_now p bytes sectors)) (set_others p (torn_now p bytes sectors))
      (sound_after (HomeFails p sectors) (fits.0.0, (home.dirty, home.told)))
      (map_torn (f.is_map p) (matters_at f core p) (lines_at core p) n (image core n p) (core.slots p) (block_in half p) (page_in half p) (is.each p fits.0.1.there) bytes (told_page core p) sectors
      (page_of (set half.shown.pages p (torn_now p bytes sectors)) p) (sym home.bytes_are) home.is_map))

  -- ---- all blocks

  syncs : IsStepOf f core (changed both (Changes Syncs)) (LowSync ∷ [])
  syncs = single f core (changed both (Changes Syncs)) LowSync tt (record {
    sound = sound_after LowSync tt;
    history = is.history;
    taken = is.taken;
    durable = is.durable;
    told = is.told;
    grouped = is.grouped;
    syncpoints = is.syncpoints;
    points_taken = is.points_taken;
    points_stable = is.points_stable;
    number = is.number ∙ sym (length-map half.blocks synced);
    each = λ p l. (let s = length-map half.blocks synced in let there : p < length half.blocks = omega (arith, l, s) in
        moved (f.is_map p) (matters_at f core p) (lines_at core p) n (image core n p) ((does f core LowSync).slots p) ((does f core LowSync).slots p) (synced (block_in half p)) (get_or (map synced half.blocks) p no_block) (page_in half p) (page_in half p)
        refl (get_or-map synced half.blocks p no_block no_block there) refl
        (settled (f.is_map p) (matters_at f core p) (lines_at core p) n (image core n p) (core.slots p) (block_in half p) (page_in half p) (is.each p there) ((does f core LowSync).slots p).kept));
    past = λ p l. (let s = length-map half.blocks synced in record { dirty = (is.past p (omega (arith, l, s))).dirty; unsynced = refl });
  })

  tells : (k : ℕ) → Fits both (Changes (Tells k)) → IsStepOf f core (changed both (Changes (Tells k))) (Told ∷ [])
  tells k fits = single f core (changed both (Changes (Tells k))) Told tt (record {
    sound = sound_after Told tt;
    history = is.history;
    taken = is.taken;
    durable = is.durable;
    told = is.durable ∙ sym fits.1;
    grouped = is.grouped;
    syncpoints = is.syncpoints;
    points_taken = is.points_taken;
    points_stable = is.points_stable;
    number = is.number;
    each = λ p l. acknowledged (f.is_map p) (matters_at f core p) (lines_at core p) n (image core n p) (core.slots p) (block_in half p) (page_in half p) (is.each p l) core.durable (last p);
    past = λ p l. record { dirty = ap (dropped (matters_at f core p) core.durable) (is.past p l).dirty; unsynced = (is.past p l).unsynced };
  })

  -- ---- groups

  takes : is_open both ≡ false → IsStepOf f core (changed both (Changes Takes)) (step_if (is_open (changed both (Changes Takes))) Take)
  takes closed = at (is_open (changed both (Changes Takes))) refl
    where
      before : (both.log.durable ≡ half.taken) × (both.log.stable ≡ both.log.points_taken)
      before = same_counts both.log.durable half.taken both.log.stable both.log.points_taken closed

      at : (b : Bool) → is_open (changed both (Changes Takes)) ≡ b → IsStepOf f core (changed both (Changes Takes)) (step_if b Take)
      at true opened = single f core (changed both (Changes Takes)) Take (is.grouped ∙ closed) (record {
        sound = sound_after Take (is.grouped ∙ closed);
        history = is.history;
        taken = n_is;
        durable = is.durable;
        told = is.told;
        grouped = sym opened;
        syncpoints = is.syncpoints;
        points_taken = ap (λ (xs : List ℕ). length xs) is.syncpoints;
        points_stable = is.points_stable;
        number = is.number;
        each = is.each;
        past = is.past;
      })
      at false none =
          let later = same_counts both.log.durable (length half.history) both.log.stable (length half.points) none in
          no_step f core (changed both (Changes Takes)) (record {
            sound = is.sound;
            history = is.history;
            taken = is.taken ∙ sym before.0 ∙ later.0;
            durable = is.durable;
            told = is.told;
            grouped = is.grouped ∙ closed ∙ sym none;
            syncpoints = is.syncpoints;
            points_taken = is.points_taken ∙ sym before.1 ∙ later.1;
            points_stable = is.points_stable;
            number = is.number;
            each = is.each;
            past = is.past;
          })

  group_written : is_open both ≡ true → IsStepOf f core (changed both GroupIsWritten) (GroupWrite ∷ [])
  group_written opened = single f core (changed both GroupIsWritten) GroupWrite (is.grouped ∙ opened) (record {
    sound = sound_after GroupWrite (is.grouped ∙ opened);
    history = is.history;
    taken = is.taken;
    durable = is.taken;
    told = is.told;
    grouped = sym (group_closed half.taken both.log.points_taken);
    syncpoints = is.syncpoints;
    points_taken = is.points_taken;
    points_stable = is.points_taken;
    number = is.number;
    each = is.each;
    past = is.past;
  })

  -- ---- a sync point

  -- what the half holds of no page in memory alone, the core doesn't either, once all is acknowledged
  clean_in : (p : ℕ) → p < length half.blocks → f.is_map p ≡ false → (block_in half p).dirty ≡ None → core.told ≡ n → (core.slots p).block.dirty ≡ None
  clean_in p l page clean all = at (core.slots p).block.dirty refl
    where
      at : (d : Option Span) → (core.slots p).block.dirty ≡ d → d ≡ None
      at None e = refl
      at (Some span) e = absurd (
          let worth = (is.sound.slots p).worth span e (let w = last_within n (core.slots p).block.dirty span (is.sound.slots p).ok.dirty_within e in omega (arith, w, all)) in
          let later = (is.each p l).later page span e worth.1 in
          no_some later.0 (sym clean ∙ later.1))

  points : Fits both (Changes Points) → MapsAreSynced f core → IsStepOf f core (changed both (Changes Points)) (SyncPoint (length half.history) ∷ [])
  points fits maps = single f core (changed both (Changes Points)) (SyncPoint (length half.history)) allowed (record {
    sound = sound_after (SyncPoint (length half.history)) allowed;
    history = is.history;
    taken = is.taken;
    durable = is.durable;
    told = is.told;
    grouped = is.grouped;
    syncpoints = ap (λ (xs : List ℕ). xs ++ length half.history ∷ []) is.syncpoints;
    points_taken = is.points_taken;
    points_stable = is.points_stable;
    number = is.number;
    each = is.each;
    past = is.past;
  })
    where
      all : core.told ≡ n
      all = is.told ∙ fits.0.0 ∙ sym n_is

      synced_at : (p : ℕ) → (p < length half.blocks) ⊎ (length half.blocks ≤ p) → (f.is_map p ≡ true) ⊎ (f.is_map p ≡ false) → IsSynced (length half.history) (core.slots p).block
      synced_at p (inr far) page = (past_none (length half.history) (core.slots p).block.dirty (is.past p far).dirty, past_none (length half.history) (core.slots p).block.unsynced (is.past p far).unsynced)
      synced_at p (inl l) (inl this) = subst (λ (k : ℕ). IsSynced k (core.slots p).block) n_is (maps p this)
      synced_at p (inl l) (inr not_this) =
          let clean = fits.0.1 p l in
          (past_none (length half.history) (core.slots p).block.dirty (clean_in p l not_this clean.0 all), past_none (length half.history) (core.slots p).block.unsynced ((is.each p l).synced not_this clean.1))

      above : newest core ≤ core.told
      above = let c = is.sound.points in c.acknowledged (length core.syncpoints - 1) (omega (arith, c.mounted, c.stable_taken, c.taken_there))

      allowed : IsAllowed f core (SyncPoint (length half.history))
      allowed = (omega (arith, all, n_is), omega (arith, above, all, n_is), λ p. synced_at p (cases_lt p (length half.blocks)) (cases_Bool (f.is_map p)))

  -- ---- an entry

  get_or-marked : (lines : ℕ → Bool) (k q : ℕ) (blocks : List Block) (p : ℕ) → p < length blocks → get_or (marked lines k q blocks) p no_block ≡ (if lines (q + p) then dirtied k (get_or blocks p no_block) else get_or blocks p no_block)
  get_or-marked lines k q [] p h = absurd (omega (arith, h))
  get_or-marked lines k q (block ∷ blocks) zero h = let e : q + 0 ≡ q = omega arith in rw e refl
  get_or-marked lines k q (block ∷ blocks) (suc p) h =
      let e : q + suc p ≡ suc q + p = omega arith in
      rw e (get_or-marked lines k (suc q) blocks p (omega (arith, h)))

  enters : (h : Happened) → Fits both (Changes (Enters h)) → (t : Pages) → Joins f both core h t → IsStepOf f core (changed both (Changes (Enters h))) (Append (edits h) t ∷ [])
  enters h fits t joins = single f core (changed both (Changes (Enters h))) (Append (edits h) t) joins.may (record {
    sound = sound_after (Append (edits h) t) joins.may;
    history = map-append (λ (d : Done). d.tx) core.history (record { tx = edits h; image = t } ∷ []) ∙ ap (λ (txs : List (List Edit)). txs ++ edits h ∷ []) is.history ∙ sym (map-append edits half.history (h ∷ []));
    taken = is.taken;
    durable = is.durable;
    told = is.told;
    grouped = is.grouped;
    syncpoints = is.syncpoints;
    points_taken = is.points_taken;
    points_stable = is.points_stable;
    number = ap (λ (pages : Image). length pages) fits.0.pages ∙ length-pages_after 0 tx half.shown.pages ∙ is.number ∙ sym many;
    each = λ p l. each p (omega (arith, l, many));
    past = λ p l. past p (omega (arith, l, many));
  })
    where
      tx : List Edit
      tx = edits h

      new : Core
      new = appended f core tx t

      s : Pages
      s = image core n

      many : length (marked (λ (p : ℕ). touches_tx p (edits h)) (suc (length half.history)) 0 half.blocks) ≡ length half.blocks
      many = length-marked (λ (p : ℕ). touches_tx p (edits h)) (suc (length half.history)) 0 half.blocks

      more : count new ≡ suc n
      more = let e = length_push core.history (record { tx = tx; image = t }) in omega (arith, e)

      past : (p : ℕ) → length half.blocks ≤ p → IsUntouched (new.slots p).block
      past p far = subst (λ (b : Block). IsUntouched b) (sym (cond-false (f.touches s tx p) (dirtied (suc n) (core.slots p).block) (core.slots p).block (joins.within p far))) (is.past p far)

      -- what lines leave of the page that is shown
      page_is : (p : ℕ) → p < length half.blocks → page_of h.after.pages p ≡ apply_tx p tx (page_in half p)
      page_is p l =
          let size = is.number in
          let place : 0 + p ≡ p = omega arith in
          ap (λ (pages : Image). page_of pages p) fits.0.pages ∙ page_of-pages_after 0 tx half.shown.pages p (omega (arith, size, l)) ∙ ap (λ (q : ℕ). apply_tx q tx (page_in half p)) place

      block_is : (p : ℕ) → p < length half.blocks → get_or (marked (λ (q : ℕ). touches_tx q (edits h)) (suc (length half.history)) 0 half.blocks) p no_block ≡ (if touches_tx p tx then dirtied (suc n) (block_in half p) else block_in half p)
      block_is p l =
          let place : 0 + p ≡ p = omega arith in
          get_or-marked (λ (q : ℕ). touches_tx q (edits h)) (suc (length half.history)) 0 half.blocks p l
          ∙ ap (λ (q : ℕ). if touches_tx q tx then dirtied (suc (length half.history)) (block_in half p) else block_in half p) place
          ∙ ap (λ (k : ℕ). if touches_tx p tx then dirtied (suc k) (block_in half p) else block_in half p) (sym n_is)

      m' : ℕ → ℕ → Bool
      m' p = matters_at f new p

      m'_last : (p : ℕ) → m' p (suc n) ≡ matters f t p
      m'_last p = ap (λ (x : Pages). matters f x p) (last_image f core tx t)

      image_size : (p : ℕ) → length (s p) ≡ 4096
      image_size p = size_image f laws core is.sound n (omega arith) p

      each : (p : ℕ) → p < length half.blocks
          → IsBlockOf (f.is_map p) (matters_at f new p) (lines_at new p) (count new) (image new (count new) p) (new.slots p) (get_or (marked (λ (q : ℕ). touches_tx q (edits h)) (suc (length half.history)) 0 half.blocks) p no_block) (page_of h.after.pages p)
      each p l = subst (λ (k : ℕ). IsBlockOf (f.is_map p) (matters_at f new p) (lines_at new p) k (image new k p) (new.slots p) (get_or (marked (λ (q : ℕ). touches_tx q (edits h)) (suc (length half.history)) 0 half.blocks) p no_block) (page_of h.after.pages p)) (sym more)
          (moved (f.is_map p) (matters_at f new p) (lines_at new p) (suc n) (image new (suc n) p) (new.slots p) (new.slots p) (if touches_tx p tx then dirtied (suc n) (block_in half p) else block_in half p)
          (get_or (marked (λ (q : ℕ). touches_tx q (edits h)) (suc (length half.history)) 0 half.blocks) p no_block) (apply_tx p tx (page_in half p)) (page_of h.after.pages p)
          refl (block_is p l) (page_is p l)
          (entered (f.is_map p) (matters_at f core p) (matters_at f new p) (lines_at core p) (lines_at new p) n (s p) (image new (suc n) p) (core.slots p) (new.slots p).kept (block_in half p) (page_in half p) (apply_tx p tx (page_in half p))
          (λ k le. ap (λ (x : Pages). matters f x p) (longer_image f core tx t k le)) (λ k less. ap (λ (d : Done). touches_tx p d.tx) (get_or_append_left core.history (record { tx = tx; image = t } ∷ []) nothing k less)) (is.sound.slots p).ok.dirty_within b
          (λ page. length-apply_tx p tx (page_in half p) ∙ b.size page)
          shown
          (f.touches s tx p) (touches_tx p tx) (ap (λ (d : Done). touches_tx p d.tx) (get_or_push core.history (record { tx = tx; image = t }) nothing n refl))
          (reads.touched s tx p) (joins.no_maps p)
          (λ none. m'_last p ∙ ((joins.may.marked p).stays none).1)
          (λ page touched none. m'_last p ∙ freed f reads s tx t p (joins.may.logged p page) (reads.by s tx p page touched none) none)))
        where
          b : IsBlockOf (f.is_map p) (matters_at f core p) (lines_at core p) n (image core n p) (core.slots p) (block_in half p) (page_in half p)
          b = is.each p l

          follows : f.is_map p ≡ false → t p ≡ f.lines tx p (s p)
          follows page = joins.may.follows.pages p page

          shown : f.is_map p ≡ false → m' p (suc n) ≡ true → apply_tx p tx (page_in half p) ≡ image new (suc n) p
          shown page there = shown_after f laws reads s tx t p (follows page) (image_size p) (joins.may.logged p page) (page_in half p) (b.size page) (b.shown_is page) (sym (m'_last p) ∙ there)
              ∙ sym (ap (λ (x : Pages). x p) (last_image f core tx t))

  -- ---- each change

  pub step_is : (c : BothChange) (list : List Step) → Fits both c → IsPlayed f both core c list → IsStepOf f core (changed both c) list
  step_is (Changes (Enters h)) list fits (t, joins, e) = subst (λ (x : List Step). IsStepOf f core (changed both (Changes (Enters h))) x) (sym e) (enters h fits t joins)
  step_is (Changes Takes) list fits e = subst (λ (x : List Step). IsStepOf f core (changed both (Changes Takes)) x) (sym e) (takes fits.1)
  step_is (Changes (Tells k)) list fits e = subst (λ (x : List Step). IsStepOf f core (changed both (Changes (Tells k))) x) (sym e) (tells k fits)
  step_is (Changes HandsOut) list fits e = subst (λ (x : List Step). IsStepOf f core (changed both (Changes HandsOut)) x) (sym e)
      (no_step f core (changed both (Changes HandsOut)) (other (length half.history) half.known half.waiting half.low_halted half.halted both.log.log_halted))
  step_is (Changes (GoesHome p)) list fits (inl (there, e)) = subst (λ (x : List Step). IsStepOf f core (changed both (Changes (GoesHome p))) x) (sym e) (goes_home p fits there)
  step_is (Changes (GoesHome p)) list fits (inr (free, e)) = subst (λ (x : List Step). IsStepOf f core (changed both (Changes (GoesHome p))) x) (sym e) (free_goes_home p fits free)
  step_is (Changes (Tears p sectors fault)) list fits (inl (there, e)) = subst (λ (x : List Step). IsStepOf f core (changed both (Changes (Tears p sectors fault))) x) (sym e) (tears p sectors fault fits there)
  step_is (Changes (Tears p sectors fault)) list fits (inr (free, e)) = subst (λ (x : List Step). IsStepOf f core (changed both (Changes (Tears p sectors fault))) x) (sym e) (free_tears p sectors fault fits free)
  step_is (Changes (Drops p)) list fits e = subst (λ (x : List Step). IsStepOf f core (changed both (Changes (Drops p))) x) (sym e) (drops p fits)
  step_is (Changes (Writes p bytes)) list fits (inl (put_is, e)) = subst (λ (x : List Step). IsStepOf f core (changed both (Changes (Writes p bytes))) x) (sym e) (writes_data p bytes fits put_is)
  step_is (Changes (Writes p bytes)) list fits (inr (home, e)) = subst (λ (x : List Step). IsStepOf f core (changed both (Changes (Writes p bytes))) x) (sym e) (writes_map p bytes fits home)
  step_is (Changes (WriteTears p bytes sectors fault)) list fits (inl (put_is, e)) =
      subst (λ (x : List Step). IsStepOf f core (changed both (Changes (WriteTears p bytes sectors fault))) x) (sym e) (tears_data p bytes sectors fault fits put_is)
  step_is (Changes (WriteTears p bytes sectors fault)) list fits (inr (home, e)) =
      subst (λ (x : List Step). IsStepOf f core (changed both (Changes (WriteTears p bytes sectors fault))) x) (sym e) (tears_map p bytes sectors fault fits home)
  step_is (Changes (Stops fault)) list fits e = subst (λ (x : List Step). IsStepOf f core (changed both (Changes (Stops fault))) x) (sym e)
      (no_step f core (changed both (Changes (Stops fault))) (other half.handed half.known half.waiting (halted_by fault half.low_halted) (halted_by fault half.halted) both.log.log_halted))
  step_is (Changes (LogStops fault)) list fits e = subst (λ (x : List Step). IsStepOf f core (changed both (Changes (LogStops fault))) x) (sym e)
      (no_step f core (changed both (Changes (LogStops fault))) (other half.handed half.known half.waiting half.low_halted (halted_by fault half.halted) both.log.log_halted))
  step_is (Changes Syncs) list fits e = subst (λ (x : List Step). IsStepOf f core (changed both (Changes Syncs)) x) (sym e) syncs
  step_is (Changes Points) list fits (maps, e) = subst (λ (x : List Step). IsStepOf f core (changed both (Changes Points)) x) (sym e) (points fits maps)
  step_is (Changes Knows) list fits e = subst (λ (x : List Step). IsStepOf f core (changed both (Changes Knows)) x) (sym e)
      (no_step f core (changed both (Changes Knows)) (other half.handed (length half.points) half.waiting half.low_halted half.halted both.log.log_halted))
  step_is GroupIsWritten list fits e = subst (λ (x : List Step). IsStepOf f core (changed both GroupIsWritten) x) (sym e) (group_written fits.0)
  step_is (GroupFails fault) list fits e = subst (λ (x : List Step). IsStepOf f core (changed both (GroupFails fault)) x) (sym e)
      (no_step f core (changed both (GroupFails fault)) (other half.handed half.known half.waiting half.low_halted (halted_by fault half.halted) (halted_by fault both.log.log_halted)))
