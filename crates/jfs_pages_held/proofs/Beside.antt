-- Changes beside entries and beside the writes of the maps' pages.
use Rattle.std.proofs.Common.{◌≡◌, ◌≢◌, ◌⊎◌, ◌<◌, ◌≤◌, ◌&&◌, nat_le, not, refl, sym, ap, ◌∙◌, subst, ℕ, zero, suc, Bool, true, false, true≢false, if◌then◌else◌, List, [], ◌∷◌, length, get_or, map, set, Option, Some, None, IsSome, inl, inr, arith}
use Rattle.std.proofs.lemmas.Bool.{cases_Bool, cases_eq, cases_lt}
use Rattle.std.proofs.lemmas.List.{get_or-set_same, get_or-set_other, get_or-map, get_or_past, length-set}
use Rattle.jfs_joined_held.specs.held.specs.survival.specs.face.proofs.Owned.{map_matters}
use Rattle.jfs_joined_held.specs.held.specs.survival.specs.face.specs.Places.{Places, is_map_page}
use Rattle.jfs_joined_held.specs.held.specs.survival.specs.recovery.specs.Core.{Core, Slot, Step, Done, count, image, matters_at, dropped, put, home_slot, home_failed_slot, data_slot, data_failed_slot, told_page, after_steps}
use Rattle.jfs_joined_held.specs.held.specs.survival.specs.recovery.specs.Core.Step.{Write, WriteFails, Take, Home, HomeFails}
use Rattle.jfs_joined_held.specs.held.specs.survival.specs.recovery.specs.crash_core.specs.Core.{Block, no_block}
use Rattle.jfs_joined_held.specs.held.specs.survival.specs.recovery.specs.crash_core.specs.Step.{synced}
use Rattle.jfs_joined_held.specs.held.specs.survival.specs.recovery.specs.crash_core.specs.declared.block.Span.{Span}
use Rattle.jfs_joined_held.specs.held.specs.survival.specs.Played.{step_if}
use Rattle.jfs_joined_held.specs.held.specs.survival.proofs.Blocks.{none_is}
use Rattle.jfs_joined_held.specs.held.specs.survival.proofs.Changes.{put_same, put_other}
use Rattle.jfs_joined_held.specs.held.specs.Changes.{steps_of, next, Made, after, AllMay}
use Rattle.jfs_joined_held.specs.held.specs.Held.{Mount, Held, IsHeld, face_at, newest_image}
use Rattle.jfs_joined_held.specs.held.proofs.Kept.{one}
use Rattle.jfs_joined_held.specs.held.proofs.Played.{areas}
use Rattle.jfs_joined_held.specs.volume.specs.data_steps.specs.objects.specs.Volume.{Volume}
use Rattle.jfs_joined_held.specs.volume.specs.halves.specs.Both.{BothChange, Changes, GroupIsWritten, GroupFails, Fits, changed}
use Rattle.jfs_joined_held.specs.volume.specs.halves.specs.Change.{Change, Enters, Takes, Tells, HandsOut, GoesHome, Tears, Drops, Writes, WriteTears, Stops, LogStops, Syncs, Points, Knows, changed as changed_half, after as after_changes}
use Rattle.jfs_joined_held.specs.volume.specs.halves.specs.Half.{VolumeHalf, block_in, page_in, is_open}
use Rattle.jfs_pages_held.specs.Beside.{MarksStay, DirtyStays, IsNoEntry, NoEntries, IsBeside, AreBeside, DirtyLaw, BesideLaw}

-- ---- dirty pages of a half

set_clean : (blocks : List Block) (p q : ℕ) (b : Block) → (IsSome b.dirty → IsSome (get_or blocks p no_block).dirty) → IsSome (get_or (set blocks p b) q no_block).dirty → IsSome (get_or blocks q no_block).dirty
set_clean blocks p q b less some = by (cases_eq q p) (cases_lt p (length blocks))
  where
    by : (q ≡ p) ⊎ (q ≢ p) → (p < length blocks) ⊎ (length blocks ≤ p) → IsSome (get_or blocks q no_block).dirty
    by (inr ne) l = subst (λ (x : Block). IsSome x.dirty) (get_or-set_other blocks p q b no_block ne) some
    by (inl e) (inl l) = subst (λ (k : ℕ). IsSome (get_or blocks k no_block).dirty) (sym e)
        (less (subst (λ (x : Block). IsSome x.dirty) (get_or-set_same blocks p b no_block l) (subst (λ (k : ℕ). IsSome (get_or (set blocks p b) k no_block).dirty) e some)))
    by (inl e) (inr past) = none_is no_block.dirty refl (subst (λ (x : Block). IsSome x.dirty) (get_or_past (set blocks p b) q no_block (let s = length-set blocks p b in omega (arith, s, past, e))) some)

synced_clean : (blocks : List Block) (q : ℕ) → IsSome (get_or (map synced blocks) q no_block).dirty → IsSome (get_or blocks q no_block).dirty
synced_clean [] q some = some
synced_clean (b ∷ bs) zero some = some
synced_clean (b ∷ bs) (suc q) some = synced_clean bs q some

-- no page gets dirty
clean_one : (half : VolumeHalf) (c : Change) → IsNoEntry c → DirtyStays half (changed_half half c)
clean_one half (Enters h) none q some = absurd none
clean_one half Takes none q some = some
clean_one half (Tells n) none q some = some
clean_one half HandsOut none q some = some
clean_one half (GoesHome p) none q some = set_clean half.blocks p q _ (λ s. absurd (cc (s))) some
clean_one half (Tears p sectors fault) none q some = set_clean half.blocks p q _ (λ s. s) some
clean_one half (Drops p) none q some = set_clean half.blocks p q _ (λ s. absurd (cc (s))) some
clean_one half (Writes p bytes) none q some = set_clean half.blocks p q _ (λ s. absurd (cc (s))) some
clean_one half (WriteTears p bytes sectors fault) none q some = set_clean half.blocks p q _ (λ s. s) some
clean_one half (Stops fault) none q some = some
clean_one half (LogStops fault) none q some = some
clean_one half Syncs none q some = synced_clean half.blocks q some
clean_one half Points none q some = some
clean_one half Knows none q some = some

pub dirty_law : DirtyLaw
dirty_law half [] none q some = some
dirty_law half (c ∷ cs) none q some = clean_one half c none.0 q (dirty_law (changed_half half c) cs none.1 q some)

-- the same of both halves
pub clean_both : (m : Mount) (x : Held) (c : BothChange) (w : Volume) → IsBeside m.places c → DirtyStays x.both.volume (next m x c w).both.volume
clean_both m x (Changes (Enters h)) w none q some = absurd none
clean_both m x (Changes Takes) w none q some = some
clean_both m x (Changes (Tells n)) w none q some = some
clean_both m x (Changes HandsOut) w none q some = some
clean_both m x (Changes (GoesHome p)) w none q some = clean_one x.both.volume (GoesHome p) tt q some
clean_both m x (Changes (Tears p sectors fault)) w none q some = clean_one x.both.volume (Tears p sectors fault) tt q some
clean_both m x (Changes (Drops p)) w none q some = clean_one x.both.volume (Drops p) tt q some
clean_both m x (Changes (Writes p bytes)) w none q some = clean_one x.both.volume (Writes p bytes) tt q some
clean_both m x (Changes (WriteTears p bytes sectors fault)) w none q some = clean_one x.both.volume (WriteTears p bytes sectors fault) tt q some
clean_both m x (Changes (Stops fault)) w none q some = some
clean_both m x (Changes (LogStops fault)) w none q some = some
clean_both m x (Changes Syncs) w none q some = clean_one x.both.volume Syncs tt q some
clean_both m x (Changes Points) w none q some = some
clean_both m x (Changes Knows) w none q some = some
clean_both m x GroupIsWritten w none q some = some
clean_both m x (GroupFails fault) w none q some = some

-- ---- images and marks of a core

-- a core has the history of another one, and the maps' pages as dirty
pub record Alike (pl : Places) (old new : Core) : Type 0 where
  pub history : new.history ≡ old.history
  pub mounted : new.mounted ≡ old.mounted
  pub marks : (q : ℕ) → is_map_page pl q ≡ true → (new.slots q).block.dirty ≡ (old.slots q).block.dirty

image_is : (pl : Places) (old new : Core) → Alike pl old new → (k : ℕ) → image new k ≡ image old k
image_is pl old new has zero = has.mounted
image_is pl old new has (suc k) = ap (λ (h : List Done). image (record old { history = h }) (suc k)) has.history

pub marks_stay : (pl : Places) (old new : Core) → Alike pl old new → MarksStay pl old new
marks_stay pl old new has = record {
  image_is = ap (λ (k : ℕ). image new k) (ap (λ (h : List Done). length h) has.history) ∙ image_is pl old new has (count old);
  marks = has.marks;
}

itself : (pl : Places) (old : Core) → MarksStay pl old old
itself pl old = record { image_is = refl; marks = λ q is. refl }

pub marks_join : (pl : Places) (a b c : Core) → MarksStay pl a b → MarksStay pl b c → MarksStay pl a c
marks_join pl a b c x y = record { image_is = y.image_is ∙ x.image_is; marks = λ q is. y.marks q is ∙ x.marks q is }

-- a page that matters isn't dropped
stays_dirty : (m : ℕ → Bool) (told : ℕ) (dirty : Option Span) → ((k : ℕ) → m k ≡ true) → dropped m told dirty ≡ dirty
stays_dirty m told None all = refl
stays_dirty m told (Some span) all = by (nat_le span.last told) (m span.last) (all span.last)
  where
    by : (a b : Bool) → b ≡ true → (if a && not b then None else Some span) ≡ Some span
    by true true e = refl
    by false true e = refl
    by a false e = absurd (true≢false (sym e))

-- another slot has the same pages dirty, or the page isn't a map's
put_dirty : (pl : Places) (p : ℕ) (slot : Slot) (slots : ℕ → Slot) → (is_map_page pl p ≡ true → slot.block.dirty ≡ (slots p).block.dirty) → (q : ℕ) → is_map_page pl q ≡ true → (put p slot slots q).block.dirty ≡ (slots q).block.dirty
put_dirty pl p slot slots same q is = by (cases_eq q p)
  where
    by : (q ≡ p) ⊎ (q ≢ p) → (put p slot slots q).block.dirty ≡ (slots q).block.dirty
    by (inr ne) = ap (λ (x : Slot). x.block.dirty) (put_other p q slot slots ne)
    by (inl e) = subst (λ (k : ℕ). (put p slot slots k).block.dirty ≡ (slots k).block.dirty) (sym e)
        (ap (λ (x : Slot). x.block.dirty) (put_same p slot slots) ∙ same (subst (λ (k : ℕ). is_map_page pl k ≡ true) e is))

module _ (m : Mount) (x : Held) (held : IsHeld m x) where
  abbrev then_is : List Step → Type 0
  then_is steps = Alike m.places x.core (after_steps (face_at m) x.core steps)

  matters_always : (q : ℕ) → is_map_page m.places q ≡ true → (k : ℕ) → matters_at (face_at m) x.core q k ≡ true
  matters_always q is k = map_matters m.readers m.places (areas m x held) (image x.core k) q is

  -- the half never holds a page of a map as dirty
  no_map : (p : ℕ) → p < length x.both.volume.blocks → IsSome (block_in x.both.volume p).dirty → is_map_page m.places p ≡ true → ⊥
  no_map p there some is = none_is (block_in x.both.volume p).dirty ((held.core_is.each p there).map_clean is) some

  alike : (c : BothChange) → Fits x.both c → IsBeside m.places c → then_is (steps_of m x c)
  alike (Changes (Enters h)) fits beside = absurd beside
  alike (Changes Takes) fits beside = by (is_open (changed x.both (Changes Takes)))
    where
      by : (b : Bool) → then_is (step_if b Take)
      by true = record { history = refl; mounted = refl; marks = λ q is. refl }
      by false = record { history = refl; mounted = refl; marks = λ q is. refl }
  alike (Changes (Tells n)) fits beside = record { history = refl; mounted = refl; marks = λ q is. stays_dirty (matters_at (face_at m) x.core q) x.core.durable (x.core.slots q).block.dirty (matters_always q is) }
  alike (Changes HandsOut) fits beside = record { history = refl; mounted = refl; marks = λ q is. refl }
  alike (Changes (GoesHome p)) fits beside = by (matters_at (face_at m) x.core p (count x.core))
    where
      by : (b : Bool) → then_is (if b then Home p ∷ [] else Write p (page_in x.both.volume p) ∷ [])
      by true = record { history = refl; mounted = refl; marks = put_dirty m.places p (home_slot (told_page x.core p) (x.core.slots p)) x.core.slots (λ is. absurd (no_map p fits.0.0 fits.0.1 is)) }
      by false = record { history = refl; mounted = refl; marks = put_dirty m.places p (data_slot (count x.core) (page_in x.both.volume p) (x.core.slots p)) x.core.slots (λ is. refl) }
  alike (Changes (Tears p sectors fault)) fits beside = by (matters_at (face_at m) x.core p (count x.core))
    where
      by : (b : Bool) → then_is (if b then HomeFails p sectors ∷ [] else WriteFails p (page_in x.both.volume p) sectors ∷ [])
      by true = record { history = refl; mounted = refl; marks = put_dirty m.places p (home_failed_slot (told_page x.core p) sectors (x.core.slots p)) x.core.slots (λ is. refl) }
      by false = record { history = refl; mounted = refl; marks = put_dirty m.places p (data_failed_slot (count x.core) (page_in x.both.volume p) sectors (x.core.slots p)) x.core.slots (λ is. refl) }
  alike (Changes (Drops p)) fits beside = record { history = refl; mounted = refl; marks = λ q is. refl }
  alike (Changes (Writes p bytes)) fits beside = subst (λ (b : Bool). then_is (if b then Home p ∷ [] else Write p bytes ∷ [])) (sym beside)
      (record { history = refl; mounted = refl; marks = put_dirty m.places p (data_slot (count x.core) bytes (x.core.slots p)) x.core.slots (λ is. refl) })
  alike (Changes (WriteTears p bytes sectors fault)) fits beside = by (is_map_page m.places p)
    where
      by : (b : Bool) → then_is (if b then HomeFails p sectors ∷ [] else WriteFails p bytes sectors ∷ [])
      by true = record { history = refl; mounted = refl; marks = put_dirty m.places p (home_failed_slot (told_page x.core p) sectors (x.core.slots p)) x.core.slots (λ is. refl) }
      by false = record { history = refl; mounted = refl; marks = put_dirty m.places p (data_failed_slot (count x.core) bytes sectors (x.core.slots p)) x.core.slots (λ is. refl) }
  alike (Changes (Stops fault)) fits beside = record { history = refl; mounted = refl; marks = λ q is. refl }
  alike (Changes (LogStops fault)) fits beside = record { history = refl; mounted = refl; marks = λ q is. refl }
  alike (Changes Syncs) fits beside = record { history = refl; mounted = refl; marks = λ q is. refl }
  alike (Changes Points) fits beside = record { history = refl; mounted = refl; marks = λ q is. refl }
  alike (Changes Knows) fits beside = record { history = refl; mounted = refl; marks = λ q is. refl }
  alike GroupIsWritten fits beside = record { history = refl; mounted = refl; marks = λ q is. refl }
  alike (GroupFails fault) fits beside = record { history = refl; mounted = refl; marks = λ q is. refl }

  pub one_beside : (c : BothChange) (w : Volume) → Fits x.both c → IsBeside m.places c → MarksStay m.places x.core (next m x c w).core
  one_beside c w fits beside = marks_stay m.places x.core (next m x c w).core (alike c fits beside)

-- ---- lists

pub beside_law : BesideLaw
beside_law m x [] held may beside = (itself m.places x.core, λ q some. some)
beside_law m x (d ∷ ds) held (fits, change, rest) (this, others) =
    let later : Held = next m x d.change d.volume in
    let more = beside_law m later ds (one m x held d.change d.volume fits change) rest others in
    (marks_join m.places x.core later.core (after m later ds).core (one_beside m x held d.change d.volume fits this) more.0, λ q some. clean_both m x d.change d.volume this q (more.1 q some))
