-- Changes that leave the volume, one after the other.
use Rattle.std.proofs.Common.{◌≡◌, ◌≤◌, ◌+◌, ◌/◌, nat_le, not, ◌&&◌, if◌then◌else◌, ℕ, Bool, true, false, List, [], ◌∷◌, length, Option, Some, None, refl, sym, ap, ◌∙◌, subst, arith}
use Rattle.std.specs.List.{AllByRecursion}
use Rattle.std.proofs.lemmas.Bool.{or_left, or_right}
use Rattle.std.proofs.lemmas.List.{append-nil}
use Rattle.jfs_logpages.specs.Group.{pages_of}
use Rattle.jfs_commits_held.specs.volume_calls.specs.crash_core.specs.declared.block.Span.{Span}
use Rattle.jfs_commits_held.specs.volume_calls.specs.records.specs.Entries.{text_size}
use Rattle.jfs_commits_held.specs.volume_calls.specs.records.proofs.ReadBack.{length-items}
use Rattle.jfs_commits_held.specs.volume_calls.specs.halves.specs.Half.{VolumeHalf, LogHalf, Halves}
use Rattle.jfs_commits_held.specs.volume_calls.specs.halves.specs.Change.{Change, Enters, Takes, Tells, HandsOut, GoesHome, Tears, Drops, Writes, WriteTears, Stops, LogStops, Syncs, Points, Knows, Fits, FitAll, changed, after}
use Rattle.jfs_commits_held.specs.volume_calls.specs.halves.specs.Both.{Changes, Fits as FitsBoth}
use Rattle.jfs_commits_held.specs.volume_calls.specs.halves.specs.Parts.{Parts, StandsFor}
use Rattle.jfs_commits_held.specs.volume_calls.specs.halves.specs.Moves.{Moves}
use Rattle.jfs_commits_held.specs.volume_calls.specs.volume.specs.data_steps.specs.objects.specs.Volume.{Volume}
use Rattle.jfs_commits_held.specs.volume_calls.specs.volume.specs.data_steps.specs.meaning.specs.Readers.{readers}
use Rattle.jfs_commits_held.specs.joined_held.specs.held.specs.survival.specs.face.specs.Places.{is_map_page}
use Rattle.jfs_commits_held.specs.joined_held.specs.held.specs.survival.specs.face.proofs.Whole.{is_face}
use Rattle.jfs_commits_held.specs.joined_held.specs.held.specs.survival.specs.MapMarks.{map_marks}
use Rattle.jfs_commits_held.specs.joined_held.specs.held.specs.survival.specs.recovery.specs.Core.{count, image, matters_at, dropped}
use Rattle.jfs_commits_held.specs.joined_held.specs.held.specs.survival.specs.recovery.specs.Sound.{MayCount}
use Rattle.jfs_commits_held.specs.joined_held.specs.held.specs.survival.proofs.Changes.{counted}
use Rattle.jfs_commits_held.specs.joined_held.specs.held.specs.Held.{Mount, Held, IsHeld, IsImageAt, face_at}
use Rattle.jfs_commits_held.specs.joined_held.specs.held.specs.Changes.{HasTheSame, MayChange, next}
use Rattle.jfs_commits_held.specs.joined_held.specs.held.proofs.Kept.{one, before, replaced, part_size}
use Rattle.jfs_commits_held.specs.joined_held.specs.held.proofs.Played.{areas}
use Rattle.jfs_commits_held.specs.joined_held.specs.Held.{blocks_at, volume_at}
use Rattle.jfs_log_window.specs.Events.{points_in}
use Rattle.jfs_held_maps.specs.Maps.{KeepsMaps}
use Rattle.jfs_held_maps.proofs.Kept.{change_law as change_maps}
use Rattle.jfs_pages_held.specs.Beside.{MarksStay}
use Rattle.jfs_kept_volumes.specs.Keeper.{Keeper, held_by}
use Rattle.jfs_kept_volumes.specs.Rest.{since, IsAtRest, HasRoom}
use Rattle.jfs_kept_volumes.specs.Kept.{IsHeldAtRest}
use Rattle.jfs_kept_volumes.specs.Logs.{with_log, kept_with, MayBeLogOf}
use Rattle.jfs_kept_volumes.specs.Steps.{KeepsVolume, IsQuiet, is_group, takes_group, GoesQuietly, QuietLaw}
use Rattle.jfs_kept_volumes.proofs.Logs.{counted_as, held_as, other_log_law}
use Rattle.jfs_kept_volumes.proofs.Maps.{of_volume, of_counts}
use Rattle.jfs_kept_volumes.proofs.Rests.{stable_then, takes_rest, room_then, rest_law}

-- what waits has room behind all since the newest SYNCPT
abbrev RoomBehind : Halves → Type 0
RoomBehind both = pages_of (since 0 both.log.items + text_size both.volume.waiting.items + 36) ≤ both.volume.waiting.ring / 2

same_volume : (v : Volume) → HasTheSame v v
same_volume v = record { extents = refl; area = λ b. refl; used = λ b. refl; in_use = λ n. refl; pages = λ b used. refl }

-- another function may give the same volumes of the history
named : (m : Mount) (h : Held) (volumes : ℕ → Volume) → ((k : ℕ) → k ≤ count h.core → h.volumes k ≡ volumes k) → IsHeld m h → IsHeld m (record h { volumes = volumes })
named m h volumes same held = record {
  fits = held.fits;
  core_is = held.core_is;
  states = held.states;
  images = λ k low. subst (λ (u : Volume). IsImageAt m (image h.core k) u) (same k low) (held.images k low);
  now = held.now;
  mapped = held.mapped;
  maps_within = held.maps_within;
}

-- ---- one change

-- A keeper after it.
record Step (m : Mount) (blocks : ℕ) (v : Volume) (x : Keeper) (half : VolumeHalf) : Type 0 where
  y : Keeper
  held : IsHeld m (held_by y v)
  rest : IsAtRest blocks y.both
  room : RoomBehind x.both → RoomBehind y.both
  half_is : y.both.volume ≡ half
  history : half.history ≡ x.both.volume.history
  points : half.points ≡ x.both.volume.points
  part : length half.blocks ≡ length x.both.volume.blocks
  volumes : (k : ℕ) → y.volumes k ≡ x.volumes k
  marks : MarksStay m.places x.core y.core
  maps : KeepsMaps m (held_by y v)
  mounted : y.core.mounted ≡ x.core.mounted

module _ (m : Mount) (blocks : ℕ) (v : Volume) (x : Keeper) (held : IsHeld m (held_by x v)) (keeps : KeepsMaps m (held_by x v)) (rest : IsAtRest blocks x.both) where
  abbrev half : VolumeHalf
  half = x.both.volume

  -- the log at rest, beside a half with these counts
  own : (later : VolumeHalf) → later.told ≤ half.taken → later.taken ≡ half.taken → later.points ≡ half.points → MayBeLogOf later x.both.log
  own later told taken points =
      let none = rest.none in
      let e = rest.events.3 in
      record {
        told = (let a = none.durable in omega (arith, told, a));
        durable = (let a = none.durable in omega (arith, a, taken));
        some = (let a = e.points_stable in let b = ap points_in e.begins.1 in omega (arith, a, b));
        stable = (let a = none.stable in let b = none.points in omega (arith, a, b));
        points = (let a = none.points in let b = ap (λ (l : List ℕ). length l) points in omega (arith, a, b));
      }

  told_taken : half.told ≤ half.taken
  told_taken =
      let c = held.core_is.sound.counts in
      let a = held.core_is.told in
      let b = held.core_is.taken in
      let d = c.told_durable in
      let f = c.durable_taken in
      omega (arith, a, b, d, f)

  -- ---- a group

  taken_all : MayCount x.core (length half.history) (length half.history) (length half.points) (length half.points)
  taken_all =
      let number = counted (face_at m) x.both x.core held.core_is in
      let c = held.core_is.sound.counts in
      let a = c.told_durable in
      let b = c.durable_taken in
      let d = c.taken_appended in
      record {
        told_durable = omega (arith, number, a, b, d);
        durable_taken = omega arith;
        taken_there = omega (arith, number);
        some = (let p = rest.none.stable in let e = rest.events.3 in let s = e.points_stable in let t = ap points_in e.begins.1 in omega (arith, p, s, t));
        stable_taken = omega arith;
        points_there = (let p = ap (λ (l : List ℕ). length l) held.core_is.syncpoints in omega (arith, p));
      }

  takes : RoomBehind x.both → Step m blocks v x (changed half Takes)
  takes room = record {
    y = counted_as (length half.history) (length half.history) (stable_then x.both).volume.waiting (stable_then x.both).log x;
    held = held_as m x v held (length half.history) (length half.history) (stable_then x.both).volume.waiting (stable_then x.both).log refl taken_all;
    rest = takes_rest blocks x.both rest room;
    room = room_then blocks x.both rest;
    half_is = refl;
    history = refl;
    points = refl;
    part = refl;
    volumes = λ k. refl;
    marks = record { image_is = refl; marks = λ q map. refl };
    maps = of_counts m x v (length half.history) (length half.history) (stable_then x.both).volume.waiting (stable_then x.both).log keeps;
    mounted = refl;
  }

  -- ---- others, with another log meanwhile

  module _ (c : Change) (log : LogHalf) (may : MayBeLogOf half log) (fits : FitsBoth (with_log log x.both) (Changes c)) (change : MayChange m (held_by (kept_with log x) v) (Changes c) v) where
    abbrev old : Held
    old = held_by (kept_with log x) v

    abbrev later : Held
    later = next m old (Changes c) v

    held_old : IsHeld m old
    held_old = other_log_law m x v log held may

    abbrev back : Keeper
    back = kept_with x.both.log (record { both = later.both; core = later.core; volumes = x.volumes })

    held_then : count later.core ≡ count x.core → MayBeLogOf (changed half c) x.both.log → IsHeld m (held_by back v)
    held_then number again = other_log_law m (record { both = later.both; core = later.core; volumes = x.volumes }) v x.both.log
        (named m later x.volumes (λ k low. before m old held_old (Changes c) v k (let z = number in omega (arith, low, z))) (one m old held_old (Changes c) v fits change)) again

    maps_then : KeepsMaps m (held_by back v)
    maps_then =
        let mid : Keeper = record { both = later.both; core = later.core; volumes = x.volumes } in
        of_counts m mid v mid.core.taken mid.both.volume.taken mid.both.volume.waiting x.both.log
        (of_volume m later v x.volumes (change_maps m old (Changes c) v held_old (of_counts m x v x.core.taken half.taken half.waiting log keeps) fits change))

  -- a page of a map that is dirty stays so where entries are acknowledged
  stays_dirty : (q told : ℕ) (dirty : Option Span) → is_map_page m.places q ≡ true → dropped (matters_at (face_at m) x.core q) told dirty ≡ dirty
  stays_dirty q told None map = refl
  stays_dirty q told (Some span) map =
      ap (λ (b : Bool). if b then None else Some span)
      (ap (λ (b : Bool). nat_le span.last told && not b) ((is_face m.readers m.places (map_marks m.places) (areas m (held_by x v) held)).area (image x.core span.last) q map) ∙ never (nat_le span.last told))
    where
      never : (b : Bool) → (b && false) ≡ false
      never true = refl
      never false = refl

  quiet : (c : Change) → IsQuiet c → (is_group c ≡ true → RoomBehind x.both) → Fits half c → Step m blocks v x (changed half c)
  quiet (Enters h) silent room fits = absurd silent
  quiet (GoesHome p) silent room fits = absurd silent
  quiet (Tears p sectors fault) silent room fits = absurd silent
  quiet (Writes p bytes) silent room fits = absurd silent
  quiet (WriteTears p bytes sectors fault) silent room fits = absurd silent
  quiet Points silent room fits = absurd silent
  quiet Takes silent room fits = takes (room refl)
  quiet (Tells n) silent room fits =
      let log : LogHalf = record x.both.log { durable = n } in
      let ideal = own half told_taken refl refl in
      let may : MayBeLogOf half log = record { told = fits.0; durable = fits.1; some = ideal.some; stable = ideal.stable; points = ideal.points } in
      record {
        y = back (Tells n) log may (fits, refl) (same_volume v);
        held = held_then (Tells n) log may (fits, refl) (same_volume v) refl (own (changed half (Tells n)) fits.1 refl refl);
        rest = rest_law blocks x.both (Tells n) rest fits tt;
        room = λ room. room;
        half_is = refl;
        history = refl;
        points = refl;
        part = refl;
        volumes = λ k. refl;
        marks = record { image_is = refl; marks = λ q map. stays_dirty q n (x.core.slots q).block.dirty map };
        maps = maps_then (Tells n) log may (fits, refl) (same_volume v);
        mounted = refl;
      }
  quiet HandsOut silent room fits =
      let may = own half told_taken refl refl in
      record {
        y = back HandsOut x.both.log may (fits, tt) (same_volume v);
        held = held_then HandsOut x.both.log may (fits, tt) (same_volume v) refl (own (changed half HandsOut) told_taken refl refl);
        rest = rest_law blocks x.both HandsOut rest fits tt;
        room = λ room. room;
        half_is = refl;
        history = refl;
        points = refl;
        part = refl;
        volumes = λ k. refl;
        marks = record { image_is = refl; marks = λ q map. refl };
        maps = maps_then HandsOut x.both.log may (fits, tt) (same_volume v);
        mounted = refl;
      }
  quiet (Drops p) silent room fits =
      let may = own half told_taken refl refl in
      record {
        y = back (Drops p) x.both.log may (fits, tt) (same_volume v);
        held = held_then (Drops p) x.both.log may (fits, tt) (same_volume v) refl (own (changed half (Drops p)) told_taken refl refl);
        rest = rest_law blocks x.both (Drops p) rest fits tt;
        room = λ room. room;
        half_is = refl;
        history = refl;
        points = refl;
        part = part_size x.both (Changes (Drops p));
        volumes = λ k. refl;
        marks = record { image_is = refl; marks = λ q map. refl };
        maps = maps_then (Drops p) x.both.log may (fits, tt) (same_volume v);
        mounted = refl;
      }
  quiet (Stops fault) silent room fits =
      let may = own half told_taken refl refl in
      record {
        y = back (Stops fault) x.both.log may (fits, tt) (same_volume v);
        held = held_then (Stops fault) x.both.log may (fits, tt) (same_volume v) refl (own (changed half (Stops fault)) told_taken refl refl);
        rest = rest_law blocks x.both (Stops fault) rest fits tt;
        room = λ room. room;
        half_is = refl;
        history = refl;
        points = refl;
        part = refl;
        volumes = λ k. refl;
        marks = record { image_is = refl; marks = λ q map. refl };
        maps = maps_then (Stops fault) x.both.log may (fits, tt) (same_volume v);
        mounted = refl;
      }
  quiet (LogStops fault) silent room fits =
      let log : LogHalf = record x.both.log { log_halted = Some fault } in
      let ideal = own half told_taken refl refl in
      let may : MayBeLogOf half log = record { told = ideal.told; durable = ideal.durable; some = ideal.some; stable = ideal.stable; points = ideal.points } in
      let runs_not : log.log_halted ≡ None → ⊥ = λ (e : Some fault ≡ None). cc (e) in
      record {
        y = back (LogStops fault) log may (fits, runs_not) (same_volume v);
        held = held_then (LogStops fault) log may (fits, runs_not) (same_volume v) refl (own (changed half (LogStops fault)) told_taken refl refl);
        rest = rest_law blocks x.both (LogStops fault) rest fits tt;
        room = λ room. room;
        half_is = refl;
        history = refl;
        points = refl;
        part = refl;
        volumes = λ k. refl;
        marks = record { image_is = refl; marks = λ q map. refl };
        maps = maps_then (LogStops fault) log may (fits, runs_not) (same_volume v);
        mounted = refl;
      }
  quiet Syncs silent room fits =
      let may = own half told_taken refl refl in
      record {
        y = back Syncs x.both.log may (fits, tt) (same_volume v);
        held = held_then Syncs x.both.log may (fits, tt) (same_volume v) refl (own (changed half Syncs) told_taken refl refl);
        rest = rest_law blocks x.both Syncs rest fits tt;
        room = λ room. room;
        half_is = refl;
        history = refl;
        points = refl;
        part = part_size x.both (Changes Syncs);
        volumes = λ k. refl;
        marks = record { image_is = refl; marks = λ q map. refl };
        maps = maps_then Syncs x.both.log may (fits, tt) (same_volume v);
        mounted = refl;
      }
  quiet Knows silent room fits =
      let may = own half told_taken refl refl in
      let stable = rest.none.stable in
      record {
        y = back Knows x.both.log may (fits, stable) (same_volume v);
        held = held_then Knows x.both.log may (fits, stable) (same_volume v) refl (own (changed half Knows) told_taken refl refl);
        rest = rest_law blocks x.both Knows rest fits tt;
        room = λ room. room;
        half_is = refl;
        history = refl;
        points = refl;
        part = refl;
        volumes = λ k. refl;
        marks = record { image_is = refl; marks = λ q map. refl };
        maps = maps_then Knows x.both.log may (fits, stable) (same_volume v);
        mounted = refl;
      }

-- ---- all of a list

both_marks : (m : Mount) (x y z : Keeper) → MarksStay m.places x.core y.core → MarksStay m.places y.core z.core → MarksStay m.places x.core z.core
both_marks m x y z a b = record { image_is = b.image_is ∙ a.image_is; marks = λ q map. b.marks q map ∙ a.marks q map }

all : (m : Mount) (blocks : ℕ) (v : Volume) (list : List Change) (x : Keeper) → IsHeld m (held_by x v) → KeepsMaps m (held_by x v) → IsAtRest blocks x.both → (takes_group list ≡ true → RoomBehind x.both) → AllByRecursion IsQuiet list → FitAll x.both.volume list → Step m blocks v x (after x.both.volume list)
all m blocks v [] x held keeps rest room silent fit = record {
  y = x;
  held = held;
  rest = rest;
  room = λ behind. behind;
  half_is = refl;
  history = refl;
  points = refl;
  part = refl;
  volumes = λ k. refl;
  marks = record { image_is = refl; marks = λ q map. refl };
  maps = keeps;
  mounted = refl;
}
all m blocks v (c ∷ cs) x held keeps rest room silent fit =
    let s = quiet m blocks v x held keeps rest c silent.0 (λ e. room (or_left (is_group c) (takes_group cs) e)) fit.0 in
    let more = all m blocks v cs s.y s.held s.maps s.rest (λ e. s.room (room (or_right (is_group c) (takes_group cs) e))) silent.1 (subst (λ (h : VolumeHalf). FitAll h cs) (sym s.half_is) fit.1) in
    let lands : after s.y.both.volume cs ≡ after (changed x.both.volume c) cs = ap (λ (h : VolumeHalf). after h cs) s.half_is in
    record {
      y = more.y;
      held = more.held;
      rest = more.rest;
      room = λ behind. more.room (s.room behind);
      half_is = more.half_is ∙ lands;
      history = ap (λ (h : VolumeHalf). h.history) (sym lands) ∙ more.history ∙ ap (λ (h : VolumeHalf). h.history) s.half_is ∙ s.history;
      points = ap (λ (h : VolumeHalf). h.points) (sym lands) ∙ more.points ∙ ap (λ (h : VolumeHalf). h.points) s.half_is ∙ s.points;
      part = ap (λ (h : VolumeHalf). length h.blocks) (sym lands) ∙ more.part ∙ ap (λ (h : VolumeHalf). length h.blocks) s.half_is ∙ s.part;
      volumes = λ k. more.volumes k ∙ s.volumes k;
      marks = both_marks m x s.y more.y s.marks more.marks;
      maps = more.maps;
      mounted = more.mounted ∙ s.mounted;
    }

-- ---- of parts

module _ (m : Mount) (area : ℕ → ℕ) (old new : Parts) (list : List Change) (x : Keeper) (is : IsHeldAtRest m area old x) (has_room : takes_group list ≡ true → HasRoom old) (silent : AllByRecursion IsQuiet list)
    (moves : Moves true true old new x.both.volume list) (keeps : KeepsVolume area old new) where
  abbrev v : Volume
  v = volume_at area old

  waiting_room : HasRoom old → RoomBehind x.both
  waiting_room has =
      let text = is.stands.text in
      let waiting = x.both.volume.waiting in
      let size = ap (λ (b : List ℕ). length b) text.bytes ∙ length-items waiting.ring waiting.place waiting.items in
      let place = is.rest.place in
      let a = text.ring in
      let b = text.place in
      let c = text.sync in
      let r = has.1 in
      omega (arith, size, place, a, b, c, r)

  step : Step m (blocks_at old) v x (after x.both.volume list)
  step = all m (blocks_at old) v list x is.held.held is.maps is.rest (λ e. waiting_room (has_room e)) silent moves.fit

  abbrev y : Keeper
  y = step.y

  pub gone : GoesQuietly m area new list x
  gone = record {
    keeper = y;
    goes = record {
      rests = record {
        held = record {
          held = replaced m (held_by y v) (volume_at area new) step.held keeps.same;
          readers_are = ap readers keeps.sizes.blocks ∙ is.held.readers_are;
          blocks = is.held.blocks ∙ sym keeps.sizes.blocks;
          extents = keeps.sizes.extents ∙ is.held.extents;
          within = (let low = is.held.within in let a = keeps.sizes.blocks in let b = step.part in let c = ap (λ (h : VolumeHalf). length h.blocks) step.half_is in omega (arith, low, a, b, c));
        };
        stands = subst (λ (h : VolumeHalf). StandsFor true true new h) (sym step.half_is) moves.stands;
        rest = subst (λ (n : ℕ). IsAtRest n y.both) (sym keeps.sizes.blocks) step.rest;
        maps = of_volume m (held_by y v) (volume_at area new) y.volumes step.maps;
      };
      half = step.half_is;
      grows = record {
        history = ap (λ (h : VolumeHalf). h.history) step.half_is ∙ step.history ∙ sym (append-nil x.both.volume.history);
        points_are = ap (λ (h : VolumeHalf). h.points) step.half_is ∙ step.points ∙ sym (append-nil x.both.volume.points);
        volumes = λ k low. step.volumes k;
        mounted = step.mounted;
      };
    };
    marks = step.marks;
  }

pub quiet_law : QuietLaw
quiet_law m area old new list x is room silent moves keeps = gone m area old new list x is room silent moves keeps
