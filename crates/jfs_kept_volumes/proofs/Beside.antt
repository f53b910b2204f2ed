-- A log that has what happened, beside halves whose log is at rest.
use Rattle.std.proofs.Common.{◌≡◌, ◌≤◌, ◌+◌, ℕ, List, [], ◌∷◌, ◌++◌, length, drop, get_or, refl, sym, ap, ◌∙◌, subst, append_assoc, arith}
use Rattle.std.proofs.lemmas.List.{append-nil}
use Rattle.jfs_commits_held.specs.volume_calls.specs.records.specs.Entries.{Item}
use Rattle.jfs_commits_held.specs.volume_calls.specs.records.specs.Limits.{ItemsFit}
use Rattle.jfs_commits_held.specs.volume_calls.specs.halves.specs.Half.{LogHalf, Halves}
use Rattle.jfs_log_window.specs.Events.{Event, Pointed, entries_in, count, points_in, points_from, items_from, HasEvents}
use Rattle.jfs_log_window.specs.Window.{IsLogOfHalves}
use Rattle.jfs_log_window.proofs.Lists.{count-append, points_in-append, length-points, items-append}
use Rattle.jfs_kept_volumes.specs.Rest.{KeepsHalf, IsAtRest}
use Rattle.jfs_kept_volumes.specs.Logs.{with_log, MayBeLogOf, IsGroup, FrontLaw}
use Rattle.jfs_kept_volumes.proofs.Half.{keeps-front, half_fits}
use Rattle.jfs_kept_volumes.proofs.Fronts.{same_events, length-events, longer_front}

-- ---- a front of the events that were taken

begun : (x : Event) (rest front more : List Event) → x ∷ rest ≡ front ++ more → 1 ≤ length front → (tail : List Event) × (front ≡ x ∷ tail)
begun x rest [] more e some = absurd (omega (arith, some))
begun x rest (y ∷ ys) more e some = (ys, ap (λ (z : Event). z ∷ ys) (sym (ap (λ (l : List Event). get_or l 0 x) e)))

pub front_law : FrontLaw
front_law both stable grouped waiting front rest start halted e split some = record {
  begins = begun Pointed (e.begins.0 ++ grouped) front rest (ap (λ (l : List Event). l ++ grouped) (sym e.begins.1) ∙ split) some;
  history = e.history ∙ ap entries_in all;
  quiet = e.quiet;
  points = e.points ∙ ap (points_from 0) all;
  items = refl;
  group = refl;
  waits = e.waits ∙ ap (λ (l : List Event). items_from (count l) waiting) split;
  durable = refl;
  taken = e.taken ∙ ap count split;
  points_stable = refl;
  points_taken = refl;
}
  where
    all : stable ++ (grouped ++ waiting) ≡ front ++ (rest ++ waiting)
    all = sym (append_assoc stable grouped waiting) ∙ ap (λ (l : List Event). l ++ waiting) split ∙ append_assoc front rest waiting

-- ---- a log beside

first_fit : (blocks : ℕ) (xs ys : List Item) → ItemsFit blocks (xs ++ ys) → ItemsFit blocks xs
first_fit blocks [] ys all = tt
first_fit blocks (x ∷ xs) ys all = (all.0, first_fit blocks xs ys all.1)

module _ (blocks : ℕ) (both : Halves) (log : LogHalf) (rest : IsAtRest blocks both) (stable grouped waiting : List Event) (own : HasEvents both stable grouped waiting)
    (front group behind : List Event) (e : HasEvents (with_log log both) front group behind) where
  abbrev taken : List Event
  taken = stable ++ grouped

  abbrev upto : List Event
  upto = front ++ group

  same : upto ++ behind ≡ taken ++ waiting
  same = append_assoc front group behind ∙ same_events 0 (front ++ (group ++ behind)) (stable ++ (grouped ++ waiting)) (sym e.history ∙ own.history) (sym e.points ∙ own.points) ∙ sym (append_assoc stable grouped waiting)

  -- the groups of the log at rest have taken all sync counts
  fewer : points_in upto ≤ points_in taken
  fewer =
      let a = e.points_taken in
      let all = ap (λ (l : List ℕ). length l) e.points ∙ length-points 0 (front ++ (group ++ behind)) in
      let more = points_in-append front (group ++ behind) in
      let rest_of = points_in-append group behind in
      let mine = points_in-append front group in
      let b = own.points_taken in
      let c = rest.none.points in
      omega (arith, all, more, rest_of, mine, b, c)

  shorter : length upto ≤ length taken
  shorter =
      let a = length-events upto in
      let b = length-events taken in
      let c = e.taken in
      let d = own.taken in
      let f = fewer in
      omega (arith, a, b, c, d, f)

  abbrev more : List Event
  more = drop (length upto) taken

  longer : taken ≡ upto ++ more
  longer = longer_front upto behind taken waiting same shorter

  items_are : both.log.items ≡ (log.items ++ log.group) ++ items_from (0 + count upto) more
  items_are =
      sym (append-nil both.log.items) ∙ ap (λ (l : List Item). both.log.items ++ l) (sym rest.none.group) ∙ ap (λ (l : List Item). l ++ both.log.group) own.items ∙ ap (λ (l : List Item). items_from 0 stable ++ l) own.group
      ∙ ap (λ (n : ℕ). items_from 0 stable ++ items_from n grouped) (let z : count stable ≡ 0 + count stable = omega arith in z) ∙ sym (items-append 0 stable grouped) ∙ ap (items_from 0) longer ∙ items-append 0 upto more
      ∙ ap (λ (l : List Item). l ++ items_from (0 + count upto) more)
      (items-append 0 front group ∙ ap (λ (l : List Item). l ++ items_from (0 + count front) group) (sym e.items) ∙ ap (λ (l : List Item). log.items ++ l) (ap (λ (n : ℕ). items_from n group) (let z : 0 + count front ≡ count front = omega arith in z) ∙ sym e.group))

  keeps : KeepsHalf both.volume.waiting.ring 0 (log.items ++ log.group)
  keeps = keeps-front both.volume.waiting.ring 0 (log.items ++ log.group) (items_from (0 + count upto) more) (subst (λ (l : List Item). KeepsHalf both.volume.waiting.ring 0 l) items_are rest.half)

  pub log_is : IsGroup log.group → IsLogOfHalves both.volume.waiting.ring blocks (with_log log both)
  log_is one = record {
    some = (let s = rest.some in omega (arith, s));
    most = rest.most;
    size = rest.size;
    events = (front, group, behind, e);
    fit = first_fit blocks (log.items ++ log.group) (items_from (0 + count upto) more ++ both.volume.waiting.items)
        (subst (λ (l : List Item). ItemsFit blocks l) (ap (λ (l : List Item). l ++ both.volume.waiting.items) items_are ∙ append_assoc (log.items ++ log.group) (items_from (0 + count upto) more) both.volume.waiting.items) rest.fit);
    room = λ pre post is entries. half_fits both.volume.waiting.ring log.items log.group pre post keeps one is entries;
  }

  pub may_be : both.volume.told ≤ log.durable → MayBeLogOf both.volume log
  may_be told = record {
    told = told;
    durable = (
        let a = e.durable in
        let b = e.taken in
        let c = count-append front group in
        omega (arith, a, b, c));
    some = (
        let a = e.points_stable in
        let b = ap points_in e.begins.1 in
        omega (arith, a, b));
    stable = (
        let a = e.points_stable in
        let b = e.points_taken in
        let c = points_in-append front group in
        omega (arith, a, b, c));
    points = (
        let a = e.points_taken in
        let all = ap (λ (l : List ℕ). length l) e.points ∙ length-points 0 (front ++ (group ++ behind)) in
        let more = points_in-append front (group ++ behind) in
        let rest_of = points_in-append group behind in
        let mine = points_in-append front group in
        omega (arith, a, all, more, rest_of, mine));
  }
