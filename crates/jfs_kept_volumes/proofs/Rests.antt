-- A log at rest stays so.
use Rattle.std.proofs.Common.{◌≡◌, ◌≤◌, ◌<◌, ◌+◌, ◌/◌, ◌^◌, if◌then◌else◌, ℕ, suc, Bool, true, false, List, [], ◌∷◌, ◌++◌, length, refl, sym, ap, ◌∙◌, subst, append_assoc, arith}
use Rattle.std.specs.List.{AllByRecursion}
use Rattle.std.proofs.lemmas.List.{append-nil}
use Rattle.jfs_logpages.specs.Group.{pages_of}
use Rattle.jfs_commits_held.specs.volume_calls.specs.records.specs.Entries.{Item, entry, point, text_size}
use Rattle.jfs_commits_held.specs.volume_calls.specs.records.specs.Limits.{ItemFits, ItemsFit}
use Rattle.jfs_commits_held.specs.volume_calls.specs.halves.specs.Entry.{Happened, items_of}
use Rattle.jfs_commits_held.specs.volume_calls.specs.halves.specs.Half.{VolumeHalf, Halves, Waiting}
use Rattle.jfs_commits_held.specs.volume_calls.specs.halves.specs.Change.{Enters, Takes, Tells, HandsOut, GoesHome, Tears, Drops, Writes, WriteTears, Stops, LogStops, Syncs, Points, Knows, Fits, changed}
use Rattle.jfs_commits_held.specs.volume_calls.specs.halves.specs.Both.{Changes, GroupIsWritten, changed as changed_both}
use Rattle.jfs_log_window.specs.Events.{Pointed, IsQuiet, HaveEvents}
use Rattle.jfs_log_window.specs.Window.{IsOfEntry}
use Rattle.jfs_log_window.proofs.Events.{taken, written, pointed, step, events_begin}
use Rattle.jfs_kept_volumes.specs.Rest.{since, KeepsHalf, IsAtRest}
use Rattle.jfs_kept_volumes.specs.Steps.{BeginLaw, CanBeLogged, RestLaw, PointLaw}
use Rattle.jfs_kept_volumes.proofs.Half.{since-entries, keeps-entries, since-point, keeps-point}

-- ---- lists

all-append : (P : Item → Type 0) (xs ys : List Item) → AllByRecursion P xs → AllByRecursion P ys → AllByRecursion P (xs ++ ys)
all-append P [] ys a b = b
all-append P (x ∷ xs) ys a b = (a.0, all-append P xs ys a.1 b)

-- ---- a group that takes all is stable at once

abbrev pub stable_then : Halves → Halves
stable_then both = changed_both (changed_both both (Changes Takes)) GroupIsWritten

module _ (blocks : ℕ) (both : Halves) (rest : IsAtRest blocks both) where
  abbrev items : List Item
  items = both.log.items

  abbrev waits : List Item
  waits = both.volume.waiting.items

  abbrev ring : ℕ
  ring = both.volume.waiting.ring

  -- the text that is stable then
  text_is : (ws : List Item) → items ++ (both.log.group ++ ws) ≡ items ++ ws
  text_is ws = ap (λ (g : List Item). items ++ (g ++ ws)) rest.none.group

  events_then : HaveEvents (stable_then both)
  events_then = let e = rest.events in (e.0 ++ (e.1 ++ e.2), [], [], written (changed_both both (Changes Takes)) e.0 (e.1 ++ e.2) [] (taken both e.0 e.1 e.2 e.3))

  pub takes_rest : pages_of (since 0 items + text_size waits + 36) ≤ ring / 2 → IsAtRest blocks (stable_then both)
  takes_rest room = record {
    none = record { durable = refl; points = refl; stable = refl; group = refl };
    runs = rest.runs;
    events = events_then;
    size = rest.size;
    some = rest.some;
    most = rest.most;
    fit = subst (λ (l : List Item). ItemsFit blocks l) (sym (append-nil (items ++ (both.log.group ++ waits)) ∙ text_is waits)) rest.fit;
    waits = tt;
    half = subst (λ (l : List Item). KeepsHalf ring 0 l) (sym (text_is waits)) (keeps-entries ring 0 items waits rest.half rest.waits room);
    place = (
        let a = rest.place in
        let b = since-entries 0 items waits rest.waits in
        let c = ap (since 0) (text_is waits) in
        omega (arith, a, b, c));
  }

  -- what may wait then has room as before
  pub room_then : pages_of (since 0 items + text_size waits + 36) ≤ ring / 2 → pages_of (since 0 (stable_then both).log.items + text_size (stable_then both).volume.waiting.items + 36) ≤ ring / 2
  room_then room = (
      let b = since-entries 0 items waits rest.waits in
      let c = ap (since 0) (text_is waits) in
      omega (arith, room, b, c))

  -- ---- a SYNCPT

  point_events : HaveEvents (stable_then (changed_both both (Changes Points)))
  point_events =
      let e = rest.events in
      let p = pointed both e.0 e.1 e.2 e.3 in
      let at = changed_both both (Changes Points) in
      (e.0 ++ (e.1 ++ (e.2 ++ Pointed ∷ [])), [], [], written (changed_both at (Changes Takes)) e.0 (e.1 ++ (e.2 ++ Pointed ∷ [])) [] (taken at e.0 e.1 (e.2 ++ Pointed ∷ []) p))

  point_text : waits ≡ [] → items ++ (both.log.group ++ (waits ++ point 0 ∷ [])) ≡ items ++ point 0 ∷ []
  point_text none = text_is (waits ++ point 0 ∷ []) ∙ ap (λ (ws : List Item). items ++ (ws ++ point 0 ∷ [])) none

  front_fits : (xs ys : List Item) → ItemsFit blocks (xs ++ ys) → ItemsFit blocks xs
  front_fits [] ys all = tt
  front_fits (x ∷ xs) ys all = (all.0, front_fits xs ys all.1)

  pub point_rest : waits ≡ [] → IsAtRest blocks (stable_then (changed_both both (Changes Points)))
  point_rest none = record {
    none = record { durable = refl; points = refl; stable = refl; group = refl };
    runs = rest.runs;
    events = point_events;
    size = rest.size;
    some = rest.some;
    most = rest.most;
    fit = subst (λ (l : List Item). ItemsFit blocks l) (sym (append-nil (items ++ (both.log.group ++ (waits ++ point 0 ∷ []))) ∙ point_text none)) (all-append (ItemFits blocks) items (point 0 ∷ []) (front_fits items waits rest.fit) (omega arith, tt));
    waits = tt;
    half = subst (λ (l : List Item). KeepsHalf ring 0 l) (sym (point_text none)) (keeps-point ring 0 0 items rest.some rest.half);
    place = (
        let c = ap (since 0) (point_text none) ∙ since-point 0 0 items in
        let d = ap (λ (ws : List Item). text_size (ws ++ point 0 ∷ [])) none in
        let f = ap text_size none in
        omega (arith, c, d, f));
  }

  -- ---- other changes

  -- where the volume's half keeps what the log is about
  pub same_rest : (half : VolumeHalf) → half.history ≡ both.volume.history → half.points ≡ both.volume.points → half.taken ≡ both.volume.taken → half.waiting ≡ both.volume.waiting → IsAtRest blocks (record both { volume = half })
  same_rest half history points taken_is waiting = record {
    none = record { durable = rest.none.durable ∙ sym taken_is; points = rest.none.points ∙ ap (λ (l : List ℕ). length l) (sym points); stable = rest.none.stable ∙ ap (λ (l : List ℕ). length l) (sym points); group = rest.none.group };
    runs = rest.runs;
    events = (let e = rest.events in (
      e.0,
      e.1,
      e.2,
      record {
        begins = e.3.begins;
        history = history ∙ e.3.history;
        quiet = subst (AllByRecursion IsQuiet) (sym history) e.3.quiet;
        points = points ∙ e.3.points;
        items = e.3.items;
        group = e.3.group;
        waits = ap (λ (w : Waiting). w.items) waiting ∙ e.3.waits;
        durable = e.3.durable;
        taken = taken_is ∙ e.3.taken;
        points_stable = e.3.points_stable;
        points_taken = e.3.points_taken;
      },
    ));
    size = rest.size;
    some = subst (λ (w : Waiting). 4 ≤ w.ring) (sym waiting) rest.some;
    most = subst (λ (w : Waiting). w.ring < 2 ^ 16) (sym waiting) rest.most;
    fit = subst (λ (w : Waiting). ItemsFit blocks (items ++ w.items)) (sym waiting) rest.fit;
    waits = subst (λ (w : Waiting). AllByRecursion IsOfEntry w.items) (sym waiting) rest.waits;
    half = subst (λ (w : Waiting). KeepsHalf w.ring 0 items) (sym waiting) rest.half;
    place = subst (λ (w : Waiting). w.place ≡ w.sync + since 0 items) (sym waiting) rest.place;
  }

  -- an entry
  module _ (h : Happened) (can : h.logs ≡ true → CanBeLogged blocks both.volume h) where
    abbrev n : ℕ
    n = suc (length both.volume.history)

    fits_by : (b : Bool) → h.logs ≡ b → ItemsFit blocks (if b then entry n h.noted ∷ [] else [])
    fits_by true e = (((can e).number, (can e).edits), tt)
    fits_by false e = tt

    entries_by : (b : Bool) → AllByRecursion IsOfEntry (if b then entry n h.noted ∷ [] else [])
    entries_by true = (tt, tt)
    entries_by false = tt

    pub enters_rest : Fits both.volume (Enters h) → IsAtRest blocks (changed_both both (Changes (Enters h)))
    enters_rest fits = record {
      none = record { durable = rest.none.durable; points = rest.none.points; stable = rest.none.stable; group = rest.none.group };
      runs = rest.runs;
      events = (let e = rest.events in step both e.0 e.1 e.2 e.3 (Changes (Enters h)) (fits, tt));
      size = rest.size;
      some = rest.some;
      most = rest.most;
      fit = subst (λ (l : List Item). ItemsFit blocks l) (append_assoc items waits (items_of n h)) (all-append (ItemFits blocks) (items ++ waits) (items_of n h) rest.fit (fits_by h.logs refl));
      waits = all-append IsOfEntry waits (items_of n h) rest.waits (entries_by h.logs);
      half = rest.half;
      place = rest.place;
    }

pub rest_law : RestLaw
rest_law blocks both (Enters h) rest fits leaves = enters_rest blocks both rest h leaves fits
rest_law blocks both Takes rest fits leaves = absurd leaves
rest_law blocks both Points rest fits leaves = absurd leaves
rest_law blocks both (Tells n) rest fits leaves = same_rest blocks both rest (changed both.volume (Tells n)) refl refl refl refl
rest_law blocks both HandsOut rest fits leaves = same_rest blocks both rest (changed both.volume HandsOut) refl refl refl refl
rest_law blocks both (GoesHome p) rest fits leaves = same_rest blocks both rest (changed both.volume (GoesHome p)) refl refl refl refl
rest_law blocks both (Tears p sectors fault) rest fits leaves = same_rest blocks both rest (changed both.volume (Tears p sectors fault)) refl refl refl refl
rest_law blocks both (Drops p) rest fits leaves = same_rest blocks both rest (changed both.volume (Drops p)) refl refl refl refl
rest_law blocks both (Writes p bytes) rest fits leaves = same_rest blocks both rest (changed both.volume (Writes p bytes)) refl refl refl refl
rest_law blocks both (WriteTears p bytes sectors fault) rest fits leaves = same_rest blocks both rest (changed both.volume (WriteTears p bytes sectors fault)) refl refl refl refl
rest_law blocks both (Stops fault) rest fits leaves = same_rest blocks both rest (changed both.volume (Stops fault)) refl refl refl refl
rest_law blocks both (LogStops fault) rest fits leaves = same_rest blocks both rest (changed both.volume (LogStops fault)) refl refl refl refl
rest_law blocks both Syncs rest fits leaves = same_rest blocks both rest (changed both.volume Syncs) refl refl refl refl
rest_law blocks both Knows rest fits leaves = same_rest blocks both rest (changed both.volume Knows) refl refl refl refl

pub point_law : PointLaw
point_law blocks both rest none fits = point_rest blocks both rest none

pub begin_law : BeginLaw
begin_law blocks ring shown small some most = record {
  none = record { durable = refl; points = refl; stable = refl; group = refl };
  runs = refl;
  events = events_begin ring shown;
  size = small;
  some = some;
  most = most;
  fit = (omega arith, tt);
  waits = tt;
  half = (omega (arith, some), omega (arith, some));
  place = refl;
}
