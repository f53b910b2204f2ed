-- A call that is done keeps a volume held.
use Rattle.std.specs.Bool.{⊤}
use Rattle.std.proofs.Common.{◌≡◌, ◌⊎◌, ◌<◌, ◌≤◌, ◌+◌, nat_lt, not, refl, sym, ap, ◌∙◌, subst, ℕ, Bool, true, false, true≢false, if◌then◌else◌, List, [], ◌∷◌, ◌++◌, length, inl, inr, arith}
use Rattle.std.specs.List.{AllByRecursion}
use Rattle.std.proofs.lemmas.Bool.{and_parts, cases_lt, ltb-true}
use Rattle.std.proofs.lemmas.List.{get_or_past}
use Rattle.jfs_bits.specs.declared.descriptor.Moment.{Moment}
use Rattle.jfs_disk.specs.Image.{Image, page_of}
use Rattle.jfs_ranges.specs.Apply.{apply_tx, touches_tx}
use Rattle.jfs_ranges.specs.Laid.{put_tx}
use Rattle.jfs_ranges.specs.View.{AreWhole}
use Rattle.jfs_ranges.specs.declared.edit.Edit.{Edit}
use Rattle.jfs_entries_within.specs.entered.specs.marks.specs.imap.specs.Inodes.{Inodes}
use Rattle.jfs_volume.specs.bmap.specs.States.{Blocks, BlockState, Free, Owned, Reserved, Busy, put_state, state_of, is_owned, is_owned_state}
use Rattle.jfs_volume.specs.bmap.proofs.States.{changed-length}
use Rattle.jfs_volume.specs.data_steps.specs.objects.specs.Readers.{Readers}
use Rattle.jfs_volume.specs.data_steps.specs.objects.specs.Owners.{IsSound}
use Rattle.jfs_volume.specs.data_steps.specs.objects.specs.Volume.{Volume}
use Rattle.jfs_volume.specs.data_steps.specs.meaning.specs.Readers.{readers}
use Rattle.jfs_volume.specs.data_steps.specs.way.specs.Volume.{volume_of}
use Rattle.jfs_entries_within.specs.entered.specs.Marked.{AreLoggable, HasMarks, IsMapAfter}
use Rattle.jfs_entries_within.specs.entered.specs.Laws.{IsEnteredMap, AreBlocksAfter}
use Rattle.jfs_entries_within.specs.entered.proofs.Behind.{behind_law}
use Rattle.jfs_entries_within.specs.entered.proofs.InUse.{inodes_law}
use Rattle.jfs_entries_within.specs.entered.proofs.Joined.{pages_law, volume_law}
use Rattle.jfs_entries_within.specs.entered.proofs.Used.{blocks_law}
use Rattle.jfs_entries_within.proofs.Within.{part_law, within_law}
use Rattle.jfs_entries_within.specs.entered.specs.marks.specs.Marks.{AreMarked}
use Rattle.jfs_entries_within.specs.entered.specs.marks.specs.Marking.{AreMarksOf}
use Rattle.jfs_entries_within.specs.entered.specs.marks.specs.declared.marking.Marking.TheVariants.{Fits}
use Rattle.jfs_volume.specs.Append.{unreserved}
use Rattle.jfs_volume.specs.Called.{IsJoined, JoinsWith, happened}
use Rattle.jfs_volume.specs.Data.{put_pages}
use Rattle.jfs_volume.specs.Runs.{taken_in}
use Rattle.jfs_volume.specs.Written.{writes}
use Rattle.jfs_volume.specs.data_steps.specs.After.{put_data, with_data}
use Rattle.jfs_volume.specs.data_steps.specs.declared.pages.DataPage.{DataPage}
use Rattle.jfs_volume.specs.data_steps.specs.steps.specs.After.{takes, used_after}
use Rattle.jfs_volume.specs.records.specs.Limits.{IsLoggable}
use Rattle.jfs_volume.specs.records.specs.Records.{noted, tx_of}
use Rattle.jfs_volume.proofs.PartlyPut.{put_at}
use Rattle.jfs_volume.proofs.Taken.{takes_runs}
use Rattle.jfs_volume.proofs.Texts.{tx_of-noted}
use Rattle.jfs_volume.specs.crash_core.specs.Image.{pages_after}
use Rattle.jfs_volume.specs.halves.specs.Entry.{Happened, Shown}
use Rattle.jfs_volume.specs.halves.specs.Half.{VolumeHalf, Halves}
use Rattle.jfs_volume.specs.halves.specs.Marks.{map_after}
use Rattle.jfs_volume.specs.halves.specs.Change.{Change, Enters, Writes, SameStates, changed as change_half, after as after_changes, FitAll as FitAllOfVolume}
use Rattle.jfs_volume.specs.halves.specs.Both.{Changes, FitAll, changed}
use Rattle.jfs_volume.specs.halves.specs.Moves.{Moves}
use Rattle.jfs_volume.specs.halves.specs.Parts.{Parts}
use Rattle.jfs_volume.specs.plain.specs.declared.call.Entry.{Entry}
use Rattle.jfs_held_calls.specs.held.specs.survival.specs.recovery.specs.Core.{Core}
use Rattle.jfs_held_calls.specs.held.specs.survival.specs.face.specs.Places.{is_map_page, is_fixed_page}
use Rattle.jfs_held_calls.specs.held.specs.canonical_maps.specs.Laws.{StaysWithin}
use Rattle.jfs_held_calls.specs.held.specs.image_volumes.specs.Enters.{KeepsToItsPart}
use Rattle.jfs_held_calls.specs.held.specs.image_volumes.specs.Stands.{IsVolumeAfter}
use Rattle.jfs_held_calls.specs.held.specs.image_volumes.proofs.Read.{no_map_page}
use Rattle.jfs_held_calls.specs.held.specs.Held.{Mount, Held}
use Rattle.jfs_held_calls.specs.held.specs.Changes.{TakesData, HasTheSame, with_page, next, AllMay, after}
use Rattle.jfs_held_calls.specs.held.proofs.Crash.{run_law}
use Rattle.jfs_held_calls.specs.held.proofs.Kept.{replaced}
use Rattle.jfs_held_calls.specs.held.proofs.Played.{areas}
use Rattle.jfs_held_calls.specs.Calls.{made_by, changes_of, IsCall}
use Rattle.jfs_held_calls.proofs.Calls.{call_law, own_law}
use Rattle.jfs_joined_held.specs.Held.{blocks_at, volume_at, held_at, IsHeldAs}
use Rattle.jfs_joined_held.specs.Called.{volume_then, IsAnswered, LogsCall, IsRunOfCall, CalledLaw}

-- ---- lists of changes

-- what the volume shows once an entry has joined
shown_after : (half : VolumeHalf) (xs : List Change) (h : Happened) → (after_changes half (xs ++ Enters h ∷ [])).shown ≡ h.after
shown_after half [] h = refl
shown_after half (c ∷ cs) h = shown_after (change_half half c) cs h

-- changes of the volume's half that fit are changes of both that do
fits_both : (put : List DataPage) (v w : Volume) (both : Halves) (h : Happened) → FitAllOfVolume both.volume (writes put ++ Enters h ∷ []) → FitAll both (changes_of (made_by v put h w))
fits_both [] v w both h fit = ((fit.0, tt), tt)
fits_both (d ∷ ds) v w both h fit = ((fit.0, tt), fits_both ds (with_page d.block d.page.0 v) w (changed both (Changes (Writes d.block d.page.0))) h fit.1)

half_then : (m : Mount) (put : List DataPage) (x : Held) (v w : Volume) (h : Happened) → (after m x (made_by v put h w)).both.volume ≡ after_changes x.both.volume (writes put ++ Enters h ∷ [])
half_then m [] x v w h = refl
half_then m (d ∷ ds) x v w h = half_then m ds (next m x (Changes (Writes d.block d.page.0)) (with_page d.block d.page.0 v)) (with_page d.block d.page.0 v) w h

ends_at : (m : Mount) (put : List DataPage) (x : Held) (v w : Volume) (h : Happened) → (after m x (made_by v put h w)).volume ≡ w
ends_at m [] x v w h = refl
ends_at m (d ∷ ds) x v w h = ends_at m ds (next m x (Changes (Writes d.block d.page.0)) (with_page d.block d.page.0 v)) (with_page d.block d.page.0 v) w h

-- ---- small facts

owned_state : (s : BlockState) → is_owned_state s ≡ true → s ≡ Owned
owned_state Free e = absurd (true≢false (sym e))
owned_state Owned e = refl
owned_state Reserved e = absurd (true≢false (sym e))
owned_state (Busy entry) e = absurd (true≢false (sym e))

-- an image with so many whole pages has their places
fits_whole : (blocks : ℕ) (image : Image) → AreWhole blocks image → blocks ≤ length image
fits_whole blocks image whole = by (cases_lt (length image) blocks)
  where
    by : (length image < blocks) ⊎ (blocks ≤ length image) → blocks ≤ length image
    by (inr l) = l
    by (inl l) = let none : 0 ≡ 4096 = sym (ap (λ (p : List ℕ). length p) (get_or_past image (length image) [] (omega arith))) ∙ whole (length image) l in absurd (omega (arith, none))

state_by : (a b : Blocks) (at : ℕ) → SameStates a b → state_of a at ≡ state_of b at
state_by a b at same = ap (λ (ss : List BlockState). state_of (record a { states = ss }) at) same.states

module _ (m : Mount) (area : ℕ → ℕ) (now : Moment) (tx : List Edit) (put : List DataPage) (entry : Entry) (number : ℕ) (asked_for : Bool) (old mid new : Parts) (both : Halves) (core : Core) (volumes : ℕ → Volume)
    (is_held : IsHeldAs m area old both core volumes) (answered : IsAnswered area old mid tx put) (joins : JoinsWith ⊤ entry tx put number mid new)
    (moves : Moves true asked_for (unreserved tx mid) new both.volume (writes put ++ Enters (happened entry now tx joins.notes put new.inodes both.volume) ∷ [])) (logs : LogsCall m area old tx put) where
  abbrev n : ℕ
  n = blocks_at old

  abbrev v : Volume
  v = volume_at area old

  abbrev w : Volume
  w = volume_then area old tx put

  abbrev h : Happened
  h = happened entry now tx joins.notes put new.inodes both.volume

  abbrev x : Held
  x = held_at both core volumes area old

  -- ---- what is known of the transaction

  size : length mid.map.states ≡ n
  size = ap (λ (states : List BlockState). length states) answered.reserved.states ∙ changed-length (λ (b : ℕ) (s : BlockState). if nat_lt 0 (takes tx b) then Reserved else s) old.map

  loggable : AreLoggable n tx joins.notes
  loggable = record { each = joins.each; all = subst (λ (k : ℕ). AllByRecursion (IsLoggable k) (noted tx joins.notes)) size joins.loggable }

  edits_are : tx_of (noted tx joins.notes) ≡ tx
  edits_are = tx_of-noted tx joins.notes joins.each

  whole : AreWhole old.blocks old.view
  whole = subst (λ (k : ℕ). AreWhole k old.view) answered.part (subst (λ (image : Image). AreWhole mid.blocks image) answered.view (joins.whole tt))

  abbrev AreMarksIn : ℕ → (ℕ → List ℕ) → Inodes → Type 0
  AreMarksIn k pages i = AreMarksOf k pages i tx put (Fits joins.marks)

  marks : AreMarksIn n (page_of old.view) old.inodes
  marks = subst (λ (k : ℕ). AreMarksIn k (page_of old.view) old.inodes) size (subst (λ (image : Image). AreMarksIn (length mid.map.states) (page_of image) old.inodes) answered.view
      (subst (λ (i : Inodes). AreMarksIn (length mid.map.states) (page_of mid.view) i) answered.inodes (joins.marks_are tt)))

  has : HasMarks n (page_of old.view) area old.map old.inodes put tx joins.notes joins.marks
  has = record {
    before = answered.before;
    put = answered.behind_data;
    after = answered.behind_all;
    whole = λ b l. whole b (let k = answered.within in omega (arith, l, k));
    put_whole = answered.whole;
    within = answered.places;
    bits = answered.bits;
    loggable = loggable;
    are = marks;
  }

  entered_map : IsEnteredMap n (mid.appended + 1) tx joins.notes (taken_in tx) old.map mid.map new.map
  entered_map = record {
    loggable = loggable;
    reserved = answered.reserved;
    behind = behind_law tx joins.behind;
    list_is = λ b. takes_runs b tx;
    entered = subst (λ (es : List Edit). SameStates new.map (map_after (mid.appended + 1) es (put_state Free (taken_in es) mid.map))) edits_are joins.adds.map;
  }

  marked : AreMarked old.inodes joins.marks new.inodes
  marked = subst (λ (i : Inodes). AreMarked i joins.marks new.inodes) answered.inodes joins.adds.inodes

  after_is : volume_of (put_tx n tx (put_data put (page_of old.view))) area new.map new.inodes ≡ w
  after_is = volume_law n (mid.appended + 1) (page_of old.view) area old.map mid.map new.map old.inodes new.inodes put tx joins.notes joins.marks (taken_in tx) has entered_map marked

  map_is : AreBlocksAfter tx old.map new.map
  map_is = blocks_law n (mid.appended + 1) tx joins.notes (taken_in tx) old.map mid.map new.map entered_map

  inodes_are : IsMapAfter n old.inodes new.inodes tx w
  inodes_are = inodes_law n (page_of old.view) area old.map old.inodes new.inodes put tx joins.notes joins.marks has marked

  shown : (b : ℕ) → b < n → page_of new.view b ≡ put_tx n tx (put_data put (page_of old.view)) b
  shown b l = ap (λ (image : Image). page_of image b) (joins.shows tt ∙ ap (λ (image : Image). pages_after 0 tx (put_pages put image)) answered.view)
      ∙ pages_law n tx joins.notes (put_pages put old.view) b loggable l
      ∙ ap (λ (page : List ℕ). if nat_lt b n then apply_tx b tx page else page) (put_at put old.view n b answered.lies (let f = fits_whole old.blocks old.view whole in let k = answered.within in omega (arith, f, k)))

  -- ---- fixed areas

  some_area : (p : ℕ) → is_map_page m.places p ≡ true → 0 < area p
  some_area p e = by (cases_lt 0 (area p))
    where
      by : (0 < area p) ⊎ (area p ≤ 0) → 0 < area p
      by (inl l) = l
      by (inr none) = absurd (true≢false (sym e ∙ no_map_page m.places p (areas m x is_held.held) (let same = is_held.held.now.shows.area p in omega (arith, none, same))))

  fixed_area : (p : ℕ) → is_fixed_page m.places p ≡ true → 0 < area p
  fixed_area p e = let some = ltb-true 0 (m.places.area p) (and_parts (nat_lt 0 (m.places.area p)) (not (is_map_page m.places p)) e).0 in let same = is_held.held.now.shows.area p in omega (arith, some, same)

  no_map_past : (p : ℕ) → length both.volume.blocks ≤ p → is_map_page m.places p ≡ false
  no_map_past p far = by (is_map_page m.places p) refl
    where
      by : (b : Bool) → is_map_page m.places p ≡ b → b ≡ false
      by false e = refl
      by true e = let near = is_held.held.maps_within p e in absurd (omega (arith, near, far))

  -- ---- the call

  follows : (es : List Edit) → es ≡ tx → IsVolumeAfter m.readers (with_data put v) w es
  follows es e = subst (λ (t : List Edit). IsVolumeAfter m.readers (with_data put v) w t) (sym e) (record { logs = logs.logs; area = λ b. refl; extents = refl })

  stays : (es : List Edit) → es ≡ tx → StaysWithin m.places es
  stays es e = subst (λ (t : List Edit). StaysWithin m.places t) (sym e)
      (within_law m.places (page_of old.view) old.inodes tx joins.notes put joins.marks is_held.extents (subst (λ (k : ℕ). AreLoggable k tx joins.notes) (sym is_held.blocks) loggable)
      (subst (λ (k : ℕ). AreMarksIn k (page_of old.view) old.inodes) (sym is_held.blocks) marks))

  keeps : KeepsToItsPart m.places both h
  keeps = record {
    no_maps = λ p e. ap (λ (es : List Edit). touches_tx p es) edits_are ∙ logs.untold p (some_area p e);
    within = λ p far. (
        let none = part_law n (tx_of (noted tx joins.notes)) joins.notes p (subst (λ (es : List Edit). AreLoggable n es joins.notes) (sym edits_are) loggable) (let k = is_held.within in omega (arith, k, far)) in
        (none.0, none.1, no_map_past p far));
  }

  owned : (b : ℕ) → w.used b ≡ true → state_of h.after.map b ≡ Owned
  owned b used =
      let same = moves.stands.block_map in
      let is_owner = (and_parts (nat_lt b (length new.map.states)) (is_owned new.map b) (map_is.used b ∙ used)).1 in
      ap (λ (s : Shown). state_of s.map b) (sym (shown_after both.volume (writes put) h)) ∙ sym (state_by new.map (after_changes both.volume (writes put ++ Enters h ∷ [])).shown.map b same) ∙ owned_state (state_of new.map b) is_owner

  call : IsCall m x put h w
  call = record {
    takes = λ b is. subst (λ (r : Readers). TakesData r v b) is_held.readers_are (own_law n v put answered.own b is);
    whole = answered.whole;
    after = follows (tx_of (noted tx joins.notes)) edits_are;
    sound = subst (λ (r : Readers). IsSound r w) is_held.readers_are answered.behind_all.sound;
    used = λ b. ap (λ (es : List Edit). used_after es v.used b) (sym edits_are);
    within = stays (tx_of (noted tx joins.notes)) edits_are;
    fixed = λ p e. answered.areas p (fixed_area p e);
    keeps = keeps;
    owned = owned;
  }

  all : AllMay m x (made_by v put h w)
  all = call_law m x put h w is_held.held (fits_both put v w both h moves.fit) call

  -- ---- the volume then

  abbrev y : Held
  y = after m x (made_by v put h w)

  same_new : HasTheSame y.volume (volume_at area new)
  same_new = subst (λ (u : Volume). HasTheSame u (volume_at area new)) (after_is ∙ sym (ends_at m put x v w h)) (record {
    extents = refl;
    area = λ b. refl;
    used = λ b. refl;
    in_use = λ i. refl;
    pages = λ b used. shown b (let l = ltb-true b (length new.map.states) (and_parts (nat_lt b (length new.map.states)) (is_owned new.map b) used).0 in let s = map_is.size in omega (arith, l, s));
  })

  pub called : IsRunOfCall m area old new both core volumes put h w
  called = record {
    may = all;
    held = record {
      held = replaced m y (volume_at area new) (run_law m x (made_by v put h w) is_held.held all).held same_new;
      readers_are = subst (λ (k : ℕ). readers k ≡ m.readers) (sym map_is.size) is_held.readers_are;
      blocks = is_held.blocks ∙ sym map_is.size;
      extents = inodes_are.places ∙ is_held.extents;
      within = (
          let low = answered.within in
          let size_then = map_is.size in
          let part : new.blocks ≡ old.blocks = ap (λ (p : Parts). p.blocks) joins.adds.parts ∙ answered.part in
          let number_is = moves.stands.number in
          let same = ap (λ (half : VolumeHalf). length half.blocks) (half_then m put x v w h) in
          omega (arith, low, size_then, part, number_is, same));
    };
  }

pub called_law : CalledLaw
called_law m area now tx put entry number asked_for old mid new both core volumes is_held answered joined stands logs =
    called m area now tx put entry number asked_for old mid new both core volumes is_held answered joined.joins (joined.moves now true asked_for (λ t. tt) (λ t. tt) both.volume stands) logs
