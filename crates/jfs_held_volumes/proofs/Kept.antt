-- A volume that is held is held after each change.
use Rattle.std.proofs.Common.{◌≡◌, ◌≢◌, ◌⊎◌, ◌<◌, ◌≤◌, nat_le, ℕ, zero, suc, Bool, true, false, if◌then◌else◌, List, [], ◌∷◌, length, Option, Some, None, IsSome, is_some, refl, sym, ap, ◌∙◌, subst, inl, inr, arith}
use Rattle.std.proofs.lemmas.Bool.{cases_Bool, cases_lt, le-leb, lt-leb, cond-true, cond-false}
use Rattle.std.proofs.lemmas.List.{length_push, get_or_past, length-map, length-set}
use Rattle.jfs_ranges.specs.Apply.{touches_tx}
use Rattle.jfs_image_volumes.specs.survival.specs.halves.specs.Entry.{Happened, edits}
use Rattle.jfs_image_volumes.specs.survival.specs.halves.specs.Half.{Halves, page_in, is_open}
use Rattle.jfs_image_volumes.specs.survival.specs.halves.specs.Marks.{entered_state}
use Rattle.jfs_image_volumes.specs.survival.specs.halves.specs.Change.{Enters, Takes, Tells, HandsOut, GoesHome, Tears, Drops, Writes, WriteTears, Stops, LogStops, Syncs, Points, Knows}
use Rattle.jfs_image_volumes.specs.survival.specs.halves.specs.Both.{BothChange, Changes, GroupIsWritten, GroupFails, Fits, changed}
use Rattle.jfs_image_volumes.specs.survival.specs.face.specs.steps.specs.bmap.specs.States.{Blocks, BlockState, Free, Owned, state_of, settled_state}
use Rattle.jfs_image_volumes.specs.survival.specs.face.specs.steps.specs.bmap.proofs.States.{changed-length}
use Rattle.jfs_image_volumes.specs.survival.specs.recovery.specs.objects.specs.Readers.{Readers}
use Rattle.jfs_image_volumes.specs.survival.specs.recovery.specs.objects.specs.Volume.{Volume}
use Rattle.jfs_image_volumes.specs.survival.specs.recovery.specs.objects.specs.Owners.{Agrees}
use Rattle.jfs_image_volumes.specs.survival.specs.recovery.specs.kinds.specs.Owner.{Owner, owner_of}
use Rattle.jfs_image_volumes.specs.survival.specs.recovery.specs.kinds.proofs.Single.{has_owners as one_owner}
use Rattle.jfs_image_volumes.specs.survival.specs.recovery.specs.Face.{Face, Pages}
use Rattle.jfs_image_volumes.specs.survival.specs.recovery.specs.Core.{Core, Step, Done, count, image, owner_at, matters_at, appended, after_steps}
use Rattle.jfs_image_volumes.specs.survival.specs.recovery.specs.Core.Step.{Write, WriteFails, Take, Home, HomeFails}
use Rattle.jfs_image_volumes.specs.survival.specs.recovery.specs.crash_core.specs.Step.{synced}
use Rattle.jfs_image_volumes.specs.survival.specs.recovery.specs.crash_core.proofs.Bounds.{length-marked}
use Rattle.jfs_image_volumes.specs.survival.specs.recovery.proofs.Kept.{longer_image, last_image}
use Rattle.jfs_image_volumes.specs.survival.specs.face.specs.Places.{is_map_page}
use Rattle.jfs_image_volumes.specs.survival.specs.face.proofs.Whole.{is_face}
use Rattle.jfs_image_volumes.specs.survival.specs.Stands.{IsCoreOf}
use Rattle.jfs_image_volumes.specs.survival.specs.Busy.{MovesStates}
use Rattle.jfs_image_volumes.specs.survival.specs.MapMarks.{map_marks}
use Rattle.jfs_image_volumes.specs.survival.specs.Played.{step_if}
use Rattle.jfs_image_volumes.specs.survival.proofs.Busy.{states_law}
use Rattle.jfs_image_volumes.specs.survival.proofs.Changes.{step_is}
use Rattle.jfs_image_volumes.specs.survival.proofs.Lines.{reads_lines}
use Rattle.jfs_image_volumes.specs.survival.proofs.Seen.{seen_law}
use Rattle.jfs_image_volumes.specs.canonical_maps.specs.Images.{after_entry}
use Rattle.jfs_image_volumes.specs.Next.{HasNext}
use Rattle.jfs_image_volumes.proofs.Enters.{gains}
use Rattle.jfs_image_volumes.proofs.Next.{next_law}
use Rattle.jfs_held_volumes.specs.Held.{Mount, Held, IsHeld, IsImageAt, face_at, newest_image}
use Rattle.jfs_held_volumes.specs.Changes.{LeadsTo, MayChange, steps_of, next}
use Rattle.jfs_held_volumes.specs.Laws.{ReplaceLaw, ChangeLaw}
use Rattle.jfs_held_volumes.proofs.Data.{same_law, image_stays}
use Rattle.jfs_held_volumes.proofs.Freed.{loses}
use Rattle.jfs_held_volumes.proofs.Played.{areas, seen, plays}

-- ---- owners and blocks in use

some_owner : (o : Option Owner) → IsSome o → is_some o ≡ true
some_owner None some = absurd (cc)
some_owner (Some a) some = refl

pub used_where : (r : Readers) (v : Volume) → Agrees r v → (b : ℕ) → IsSome (owner_of r v b) → v.used b ≡ true
used_where r v agrees b some = (one_owner r v agrees).used b ∙ some_owner (owner_of r v b) some

unused_where : (r : Readers) (v : Volume) → Agrees r v → (b : ℕ) → owner_of r v b ≡ None → v.used b ≡ false
unused_where r v agrees b none = (one_owner r v agrees).used b ∙ ap (λ (o : Option Owner). is_some o) none

-- a block past the end of the map counts as owned
free_there : (m : Blocks) (b : ℕ) → state_of m b ≡ Free → b < length m.states
free_there m b e = at (cases_lt b (length m.states))
  where
    at : (b < length m.states) ⊎ (length m.states ≤ b) → b < length m.states
    at (inl l) = l
    at (inr past) = let no : Owned ≡ Free = sym (get_or_past m.states b Owned past) ∙ e in absurd (cc)

-- a volume with the same sets and the same pages in use is held as well
pub replaced : ReplaceLaw
replaced m x w held same = record {
  fits = held.fits;
  core_is = held.core_is;
  states = held.states;
  images = held.images;
  now = same_law m (newest_image x) x.volume w held.now same;
  mapped = λ b some. held.mapped b (sym (same.used b) ∙ some);
  maps_within = held.maps_within;
}

-- ---- images that stay

-- a core has the images of another one
record HasImages (old new : Core) : Type 0 where
  history : new.history ≡ old.history
  mounted : new.mounted ≡ old.mounted

image_is : (old new : Core) → HasImages old new → (k : ℕ) → image new k ≡ image old k
image_is old new has zero = has.mounted
image_is old new has (suc k) = ap (λ (h : List Done). image (record old { history = h }) (suc k)) has.history

-- no entry joins
abbrev IsQuiet : BothChange → Type 0
IsQuiet c = (h : Happened) → c ≢ Changes (Enters h)

module _ (m : Mount) (x : Held) where
  abbrev same : List Step → Type 0
  same steps = HasImages x.core (after_steps (face_at m) x.core steps)

  quiet : (c : BothChange) → IsQuiet c → same (steps_of m x c)
  quiet (Changes (Enters h)) silent = absurd (silent h refl)
  quiet (Changes Takes) silent = by (is_open (changed x.both (Changes Takes)))
    where
      by : (b : Bool) → same (step_if b Take)
      by true = record { history = refl; mounted = refl }
      by false = record { history = refl; mounted = refl }
  quiet (Changes (Tells n)) silent = record { history = refl; mounted = refl }
  quiet (Changes HandsOut) silent = record { history = refl; mounted = refl }
  quiet (Changes (GoesHome p)) silent = by (matters_at (face_at m) x.core p (count x.core))
    where
      by : (b : Bool) → same (if b then Home p ∷ [] else Write p (page_in x.both.volume p) ∷ [])
      by true = record { history = refl; mounted = refl }
      by false = record { history = refl; mounted = refl }
  quiet (Changes (Tears p sectors fault)) silent = by (matters_at (face_at m) x.core p (count x.core))
    where
      by : (b : Bool) → same (if b then HomeFails p sectors ∷ [] else WriteFails p (page_in x.both.volume p) sectors ∷ [])
      by true = record { history = refl; mounted = refl }
      by false = record { history = refl; mounted = refl }
  quiet (Changes (Drops p)) silent = record { history = refl; mounted = refl }
  quiet (Changes (Writes p bytes)) silent = by (is_map_page m.places p)
    where
      by : (b : Bool) → same (if b then Home p ∷ [] else Write p bytes ∷ [])
      by true = record { history = refl; mounted = refl }
      by false = record { history = refl; mounted = refl }
  quiet (Changes (WriteTears p bytes sectors fault)) silent = by (is_map_page m.places p)
    where
      by : (b : Bool) → same (if b then HomeFails p sectors ∷ [] else WriteFails p bytes sectors ∷ [])
      by true = record { history = refl; mounted = refl }
      by false = record { history = refl; mounted = refl }
  quiet (Changes (Stops fault)) silent = record { history = refl; mounted = refl }
  quiet (Changes (LogStops fault)) silent = record { history = refl; mounted = refl }
  quiet (Changes Syncs) silent = record { history = refl; mounted = refl }
  quiet (Changes Points) silent = record { history = refl; mounted = refl }
  quiet (Changes Knows) silent = record { history = refl; mounted = refl }
  quiet GroupIsWritten silent = record { history = refl; mounted = refl }
  quiet (GroupFails fault) silent = record { history = refl; mounted = refl }

  unchanged : (c : BothChange) (w : Volume) → HasImages x.core (next m x c w).core → count x.core ≤ count (next m x c w).core
  unchanged c w has = let e = ap (λ (h : List Done). length h) has.history in omega (arith, e)

  -- the history only grows
  pub grows : (c : BothChange) (w : Volume) → count x.core ≤ count (next m x c w).core
  grows (Changes (Enters h)) w = let e = length_push x.core.history (record { tx = edits h; image = after_entry m.places (newest_image x) (edits h) }) in omega (arith, e)
  grows (Changes Takes) w = unchanged (Changes Takes) w (quiet (Changes Takes) (λ h e. cc (e)))
  grows (Changes (Tells k)) w = unchanged (Changes (Tells k)) w (quiet (Changes (Tells k)) (λ h e. cc (e)))
  grows (Changes HandsOut) w = unchanged (Changes HandsOut) w (quiet (Changes HandsOut) (λ h e. cc (e)))
  grows (Changes (GoesHome p)) w = unchanged (Changes (GoesHome p)) w (quiet (Changes (GoesHome p)) (λ h e. cc (e)))
  grows (Changes (Tears p sectors fault)) w = unchanged (Changes (Tears p sectors fault)) w (quiet (Changes (Tears p sectors fault)) (λ h e. cc (e)))
  grows (Changes (Drops p)) w = unchanged (Changes (Drops p)) w (quiet (Changes (Drops p)) (λ h e. cc (e)))
  grows (Changes (Writes p bytes)) w = unchanged (Changes (Writes p bytes)) w (quiet (Changes (Writes p bytes)) (λ h e. cc (e)))
  grows (Changes (WriteTears p bytes sectors fault)) w = unchanged (Changes (WriteTears p bytes sectors fault)) w (quiet (Changes (WriteTears p bytes sectors fault)) (λ h e. cc (e)))
  grows (Changes (Stops fault)) w = unchanged (Changes (Stops fault)) w (quiet (Changes (Stops fault)) (λ h e. cc (e)))
  grows (Changes (LogStops fault)) w = unchanged (Changes (LogStops fault)) w (quiet (Changes (LogStops fault)) (λ h e. cc (e)))
  grows (Changes Syncs) w = unchanged (Changes Syncs) w (quiet (Changes Syncs) (λ h e. cc (e)))
  grows (Changes Points) w = unchanged (Changes Points) w (quiet (Changes Points) (λ h e. cc (e)))
  grows (Changes Knows) w = unchanged (Changes Knows) w (quiet (Changes Knows) (λ h e. cc (e)))
  grows GroupIsWritten w = unchanged GroupIsWritten w (quiet GroupIsWritten (λ h e. cc (e)))
  grows (GroupFails fault) w = unchanged (GroupFails fault) w (quiet (GroupFails fault) (λ h e. cc (e)))

-- the block map has as many blocks as before
map_size : (both : Halves) (c : BothChange) → IsQuiet c → length (changed both c).volume.shown.map.states ≡ length both.volume.shown.map.states
map_size both (Changes (Enters h)) silent = absurd (silent h refl)
map_size both (Changes Takes) silent = refl
map_size both (Changes (Tells n)) silent = changed-length (λ (c : ℕ) (s : BlockState). settled_state n s) both.volume.shown.map
map_size both (Changes HandsOut) silent = refl
map_size both (Changes (GoesHome p)) silent = refl
map_size both (Changes (Tears p sectors fault)) silent = refl
map_size both (Changes (Drops p)) silent = refl
map_size both (Changes (Writes p bytes)) silent = refl
map_size both (Changes (WriteTears p bytes sectors fault)) silent = refl
map_size both (Changes (Stops fault)) silent = refl
map_size both (Changes (LogStops fault)) silent = refl
map_size both (Changes Syncs) silent = refl
map_size both (Changes Points) silent = refl
map_size both (Changes Knows) silent = refl
map_size both GroupIsWritten silent = refl
map_size both (GroupFails fault) silent = refl

-- and the volume's part of the disk has as many pages
pub part_size : (both : Halves) (c : BothChange) → length (changed both c).volume.blocks ≡ length both.volume.blocks
part_size both (Changes (Enters h)) = length-marked (λ p. touches_tx p (edits h)) (suc (length both.volume.history)) 0 both.volume.blocks
part_size both (Changes Takes) = refl
part_size both (Changes (Tells n)) = refl
part_size both (Changes HandsOut) = refl
part_size both (Changes (GoesHome p)) = length-set both.volume.blocks p _
part_size both (Changes (Tears p sectors fault)) = length-set both.volume.blocks p _
part_size both (Changes (Drops p)) = length-set both.volume.blocks p _
part_size both (Changes (Writes p bytes)) = length-set both.volume.blocks p _
part_size both (Changes (WriteTears p bytes sectors fault)) = length-set both.volume.blocks p _
part_size both (Changes (Stops fault)) = refl
part_size both (Changes (LogStops fault)) = refl
part_size both (Changes Syncs) = length-map both.volume.blocks synced
part_size both (Changes Points) = refl
part_size both (Changes Knows) = refl
part_size both GroupIsWritten = refl
part_size both (GroupFails fault) = refl

-- ---- one change

module _ (m : Mount) (x : Held) (held : IsHeld m x) where
  abbrev r : Readers
  r = m.readers

  abbrev f : Face
  f = face_at m

  abbrev n : ℕ
  n = count x.core

  core_then : (c : BothChange) (w : Volume) → Fits x.both c → MayChange m x c w → IsCoreOf f (changed x.both c) (next m x c w).core
  core_then c w fits may = (step_is f (is_face r m.places (map_marks m.places) (areas m x held)) (reads_lines r m.places (map_marks m.places)) x.both x.core held.core_is c (steps_of m x c) fits (plays m x held c w fits may)).core_is

  -- the volume after an entry that was there is the one that it was
  pub before : (c : BothChange) (w : Volume) (k : ℕ) → k ≤ n → (next m x c w).volumes k ≡ x.volumes k
  before c w k low = cond-true (nat_le k n) (x.volumes k) w (le-leb k n low)

  maps_stay : (c : BothChange) (p : ℕ) → is_map_page m.places p ≡ true → p < length (changed x.both c).volume.blocks
  maps_stay c p e = let there = held.maps_within p e in let size = part_size x.both c in omega (arith, there, size)

  -- ---- no entry

  volume_stays : (c : BothChange) (w : Volume) → IsQuiet c → MayChange m x c w → IsImageAt m (newest_image x) w
  volume_stays (Changes (Enters h)) w silent may = absurd (silent h refl)
  volume_stays (Changes (GoesHome p)) w silent may = same_law m (newest_image x) x.volume w held.now may.1
  volume_stays (Changes (Tears p sectors fault)) w silent may = same_law m (newest_image x) x.volume w held.now may.1
  volume_stays (Changes (Writes p bytes)) w silent (inl (size, takes, e)) = subst (λ (u : Volume). IsImageAt m (newest_image x) u) (sym e) (image_stays m (newest_image x) x.volume p bytes held.now takes)
  volume_stays (Changes (Writes p bytes)) w silent (inr (home, same)) = same_law m (newest_image x) x.volume w held.now same
  volume_stays (Changes (WriteTears p bytes sectors fault)) w silent (left, inl (size, takes, e)) = subst (λ (u : Volume). IsImageAt m (newest_image x) u) (sym e) (image_stays m (newest_image x) x.volume p left held.now takes)
  volume_stays (Changes (WriteTears p bytes sectors fault)) w silent (left, inr (home, same)) = same_law m (newest_image x) x.volume w held.now same
  volume_stays (Changes Points) w silent may = same_law m (newest_image x) x.volume w held.now may.1
  volume_stays (Changes Takes) w silent same = same_law m (newest_image x) x.volume w held.now same
  volume_stays (Changes (Tells k)) w silent same = same_law m (newest_image x) x.volume w held.now same
  volume_stays (Changes HandsOut) w silent same = same_law m (newest_image x) x.volume w held.now same
  volume_stays (Changes (Drops p)) w silent same = same_law m (newest_image x) x.volume w held.now same
  volume_stays (Changes (Stops fault)) w silent same = same_law m (newest_image x) x.volume w held.now same
  volume_stays (Changes (LogStops fault)) w silent same = same_law m (newest_image x) x.volume w held.now same
  volume_stays (Changes Syncs) w silent same = same_law m (newest_image x) x.volume w held.now same
  volume_stays (Changes Knows) w silent same = same_law m (newest_image x) x.volume w held.now same
  volume_stays GroupIsWritten w silent same = same_law m (newest_image x) x.volume w held.now same
  volume_stays (GroupFails fault) w silent same = same_law m (newest_image x) x.volume w held.now same

  module _ (c : BothChange) (w : Volume) (silent : IsQuiet c) (fits : Fits x.both c) (may : MayChange m x c w) where
    has : HasImages x.core (next m x c w).core
    has = quiet m x c silent

    number : count (next m x c w).core ≡ n
    number = ap (λ (h : List Done). length h) has.history

    newest_is : newest_image (next m x c w) ≡ newest_image x
    newest_is = ap (λ (k : ℕ). image (next m x c w).core k) number ∙ image_is x.core (next m x c w).core has n

    goes_on : IsHeld m (next m x c w)
    goes_on = record {
      fits = held.fits;
      core_is = core_then c w fits may;
      states = states_law.others r m.places (map_marks m.places) x.both x.core c (steps_of m x c) held.core_is fits (plays m x held c w fits may) silent held.states;
      images = λ k low. (let below : k ≤ n = omega (arith, low, number) in
          subst (λ (s : Pages). IsImageAt m s ((next m x c w).volumes k)) (sym (image_is x.core (next m x c w).core has k))
          (subst (λ (u : Volume). IsImageAt m (image x.core k) u) (sym (before c w k below)) (held.images k below)));
      now = subst (λ (s : Pages). IsImageAt m s w) (sym newest_is) shows;
      mapped = λ b some. (let there = held.mapped b (sym (held.now.is.same.used b) ∙ shows.is.same.used b ∙ some) in let size = map_size x.both c silent in omega (arith, there, size));
      maps_within = maps_stay c;
    }
      where
        shows : IsImageAt m (newest_image x) w
        shows = volume_stays c w silent may

  -- ---- an entry

  module _ (h : Happened) (w : Volume) (fits : Fits x.both (Changes (Enters h))) (leads : LeadsTo m x h w) where
    abbrev s : Pages
    s = newest_image x

    abbrev t : Pages
    t = after_entry m.places s (edits h)

    abbrev new : Core
    new = appended f x.core (edits h) t

    there : HasNext r m.blocks m.agsize m.numag m.table m.map m.places (map_marks m.places) s w (edits h)
    there = next_law r m.blocks m.agsize m.numag m.table m.map m.places (map_marks m.places) s x.volume w (edits h) held.fits held.now leads.follows

    moves : MovesStates x.both.volume h (λ b. owner_at f x.core b n) (λ b. f.owner t b)
    moves = record {
      owned = λ b some. leads.owned b (used_where r w leads.follows.sound.agrees b (subst (λ (o : Option Owner). IsSome o) (seen_law r m.places t w there.image.sound there.image.shows b) some));
      gone = λ b some none. (
          let was = used_where r x.volume held.now.sound.agrees b (subst (λ (o : Option Owner). IsSome o) (seen m x held b) some) in
          let now = unused_where r w leads.follows.sound.agrees b (sym (seen_law r m.places t w there.image.sound there.image.shows b) ∙ none) in
          (held.mapped b was, loses (edits h) x.volume.used b was (sym (leads.follows.used b) ∙ now)));
    }

    more : count new ≡ suc n
    more = let e = length_push x.core.history (record { tx = edits h; image = t }) in omega (arith, e)

    images : (k : ℕ) → k ≤ count new → (k ≤ n) ⊎ (n < k) → IsImageAt m (image new k) ((next m x (Changes (Enters h)) w).volumes k)
    images k low (inl below) =
        subst (λ (i : Pages). IsImageAt m i ((next m x (Changes (Enters h)) w).volumes k)) (sym (longer_image f x.core (edits h) t k below))
        (subst (λ (u : Volume). IsImageAt m (image x.core k) u) (sym (before (Changes (Enters h)) w k below)) (held.images k below))
    images k low (inr above) =
        subst (λ (j : ℕ). IsImageAt m (image new j) ((next m x (Changes (Enters h)) w).volumes j)) (let e : suc n ≡ k = omega (arith, low, above, more) in e)
        (subst (λ (i : Pages). IsImageAt m i ((next m x (Changes (Enters h)) w).volumes (suc n))) (sym (last_image f x.core (edits h) t))
        (subst (λ (u : Volume). IsImageAt m t u) (sym (cond-false (nat_le (suc n) n) (x.volumes (suc n)) w (lt-leb (suc n) n (omega arith)))) there.image))

    split : (k : ℕ) → (k ≤ n) ⊎ (n < k)
    split k = by (cases_lt n k)
      where
        by : (n < k) ⊎ (k ≤ n) → (k ≤ n) ⊎ (n < k)
        by (inl l) = inr l
        by (inr l) = inl l

    -- what comes into use was free in the map, so it is one of its blocks
    mapped : (b : ℕ) → w.used b ≡ true → b < length h.after.map.states
    mapped b some = by (cases_Bool (x.volume.used b))
      where
        size : length h.after.map.states ≡ length x.both.volume.shown.map.states
        size = ap (λ (list : List BlockState). length list) fits.0.map.states ∙ changed-length (λ (c : ℕ) (s : BlockState). entered_state (suc (length x.both.volume.history)) (edits h) c s) x.both.volume.shown.map

        by : (x.volume.used b ≡ true) ⊎ (x.volume.used b ≡ false) → b < length h.after.map.states
        by (inl was) = let there = held.mapped b was in omega (arith, there, size)
        by (inr none) = let there = free_there x.both.volume.shown.map b (fits.0.takes_free b (gains (edits h) x.volume.used b none (sym (leads.follows.used b) ∙ some))) in omega (arith, there, size)

    enters : IsHeld m (next m x (Changes (Enters h)) w)
    enters = record {
      fits = held.fits;
      core_is = core_then (Changes (Enters h)) w fits leads;
      states = states_law.enters r m.places (map_marks m.places) x.both x.core h t held.core_is fits moves held.states;
      images = λ k low. images k low (split k);
      now = subst (λ (j : ℕ). IsImageAt m (image new j) w) (sym more) (subst (λ (i : Pages). IsImageAt m i w) (sym (last_image f x.core (edits h) t)) there.image);
      mapped = mapped;
      maps_within = maps_stay (Changes (Enters h));
    }

  -- ---- each change

  pub one : (c : BothChange) (w : Volume) → Fits x.both c → MayChange m x c w → IsHeld m (next m x c w)
  one (Changes (Enters h)) w fits may = enters h w fits may
  one (Changes Takes) w fits may = goes_on (Changes Takes) w (λ h e. cc (e)) fits may
  one (Changes (Tells k)) w fits may = goes_on (Changes (Tells k)) w (λ h e. cc (e)) fits may
  one (Changes HandsOut) w fits may = goes_on (Changes HandsOut) w (λ h e. cc (e)) fits may
  one (Changes (GoesHome p)) w fits may = goes_on (Changes (GoesHome p)) w (λ h e. cc (e)) fits may
  one (Changes (Tears p sectors fault)) w fits may = goes_on (Changes (Tears p sectors fault)) w (λ h e. cc (e)) fits may
  one (Changes (Drops p)) w fits may = goes_on (Changes (Drops p)) w (λ h e. cc (e)) fits may
  one (Changes (Writes p bytes)) w fits may = goes_on (Changes (Writes p bytes)) w (λ h e. cc (e)) fits may
  one (Changes (WriteTears p bytes sectors fault)) w fits may = goes_on (Changes (WriteTears p bytes sectors fault)) w (λ h e. cc (e)) fits may
  one (Changes (Stops fault)) w fits may = goes_on (Changes (Stops fault)) w (λ h e. cc (e)) fits may
  one (Changes (LogStops fault)) w fits may = goes_on (Changes (LogStops fault)) w (λ h e. cc (e)) fits may
  one (Changes Syncs) w fits may = goes_on (Changes Syncs) w (λ h e. cc (e)) fits may
  one (Changes Points) w fits may = goes_on (Changes Points) w (λ h e. cc (e)) fits may
  one (Changes Knows) w fits may = goes_on (Changes Knows) w (λ h e. cc (e)) fits may
  one GroupIsWritten w fits may = goes_on GroupIsWritten w (λ h e. cc (e)) fits may
  one (GroupFails fault) w fits may = goes_on (GroupFails fault) w (λ h e. cc (e)) fits may

pub change_law : ChangeLaw
change_law m x c w held fits may = one m x held c w fits may
