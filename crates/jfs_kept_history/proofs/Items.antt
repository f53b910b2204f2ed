-- In the log of what keeps a volume stands what groups have taken.
use Rattle.std.proofs.Common.{◌≡◌, ◌≤◌, ◌+◌, ◌-◌, ◌∷◌, [], ◌++◌, ℕ, suc, Bool, true, false, List, length, map, take, drop, refl, sym, ap, ◌∙◌, arith, append_assoc, if◌then◌else◌}
use Rattle.std.proofs.lemmas.List.{length-append, take-map, append-nil}
use Rattle.std.proofs.Math.Seq.{take-append_seam}
use Rattle.std.specs.Prelude.{Some, None}
use Rattle.jfs_records.specs.Entries.{Item, entry, point}
use Rattle.jfs_groups.specs.Text as text
use Rattle.jfs_groups.specs.Text.{item_of, items_with}
use Rattle.jfs_log_window.specs.Events.{Event, Entered, Pointed, entries_in, count, points_from, items_from, HasEvents}
use Rattle.jfs_log_window.proofs.Lists.{entries-append, count-append, points-append, points_in-append, length-points}
use Rattle.jfs_legal.specs.served.specs.halves.specs.Entry.{Happened, items_of}
use Rattle.jfs_legal.specs.served.specs.halves.specs.Half.{Halves}
use Rattle.jfs_points_kept.specs.kept_volumes.specs.volume_calls.specs.Together.{NoGroup}
use Rattle.jfs_points_kept.specs.kept_volumes.proofs.Fronts.{length-events}
use Rattle.jfs_kept_history.specs.Kept.{Lasting, lasting, noted_of, noted_in}
use Rattle.jfs_kept_history.specs.Rested.{ItemsLaw}

-- ---- the items of events

item_is : (n : ℕ) (h : Happened) → items_of n h ≡ item_of n (noted_of h)
item_is n h = by h.logs
  where
    by : (b : Bool) → (if b then entry n h.noted ∷ [] else []) ≡ item_of n (if b then Some h.noted else None)
    by true = refl
    by false = refl

abbrev pub lasting_in : List Event → List Lasting
lasting_in es = map lasting (entries_in es)

-- each sync count stands behind as many entries
pub least : (n : ℕ) (es : List Event) (p : ℕ) (ps : List ℕ) → points_from n es ≡ p ∷ ps → n ≤ p
least n [] p ps e = absurd (let k = ap (λ (l : List ℕ). length l) e in omega (arith, k))
least n (Entered h ∷ es) p ps e = let more = least (suc n) es p ps e in omega (arith, more)
least n (Pointed ∷ es) p ps e = let k = ap (λ (l : List ℕ). first l) e in omega (arith, k)
  where
    first : List ℕ → ℕ
    first [] = 0
    first (x ∷ xs) = x

-- an entry in front of all
one_more : (n : ℕ) (e : Lasting) (es : List Lasting) (points : List ℕ) → ((p : ℕ) (ps : List ℕ) → points ≡ p ∷ ps → suc n ≤ p) → items_with noted_in n (e ∷ es) points ≡ item_of (suc n) e.noted ++ items_with noted_in (suc n) es points
one_more n e es [] low = refl
one_more n e es (p ∷ ps) low =
    let behind : p - n ≡ suc (p - suc n) = (let k = low p ps refl in omega (arith, k)) in
    ap (λ (m : ℕ). text.items_from noted_in n (take m (e ∷ es)) ++ point 0 ∷ items_with noted_in p (drop m (e ∷ es)) ps) behind
    ∙ append_assoc (item_of (suc n) e.noted) (text.items_from noted_in (suc n) (take (p - suc n) es)) (point 0 ∷ items_with noted_in p (drop (p - suc n) es) ps)

-- a SYNCPT in front of all
point_first : (n : ℕ) (es : List Lasting) (points : List ℕ) → items_with noted_in n es (n ∷ points) ≡ point 0 ∷ items_with noted_in n es points
point_first n es points =
    let none : n - n ≡ 0 = omega arith in
    ap (λ (m : ℕ). text.items_from noted_in n (take m es) ++ point 0 ∷ items_with noted_in n (drop m es) points) none

pub items_are : (n : ℕ) (es : List Event) → items_from n es ≡ items_with noted_in n (lasting_in es) (points_from n es)
items_are n [] = refl
items_are n (Entered h ∷ es) =
    ap (λ (l : List Item). l ++ items_from (suc n) es) (item_is (suc n) h)
    ∙ ap (λ (l : List Item). item_of (suc n) (noted_of h) ++ l) (items_are (suc n) es)
    ∙ sym (one_more n (lasting h) (lasting_in es) (points_from (suc n) es) (λ p ps e. least (suc n) es p ps e))
items_are n (Pointed ∷ es) = ap (λ (l : List Item). point 0 ∷ l) (items_are n es) ∙ sym (point_first n (lasting_in es) (points_from n es))

-- ---- the log at rest

none_left : {A : Type 0} (xs : List A) → length xs ≡ 0 → xs ≡ []
none_left [] e = refl
none_left (x ∷ xs) e = absurd (let k : ⊥ = omega (arith, e) in k)

module _ (both : Halves) (none : NoGroup both) (stable grouped waiting : List Event) (e : HasEvents both stable grouped waiting) where
  abbrev rest : List Event
  rest = e.begins.0

  pub taken_is : both.volume.taken ≡ count stable
  taken_is = sym none.durable ∙ e.durable

  all_points : length (points_from (0 + count stable) (grouped ++ waiting)) ≡ 0
  all_points =
      let all = ap (λ (l : List ℕ). length l) (e.points ∙ points-append 0 stable (grouped ++ waiting)) in
      let parts = length-append (points_from 0 stable) (points_from (0 + count stable) (grouped ++ waiting)) in
      let front = length-points 0 stable in
      let own = e.points_stable in
      let same = none.stable in
      omega (arith, all, parts, front, own, same)

  pub points_are : both.volume.points ≡ points_from 0 stable
  points_are = e.points ∙ points-append 0 stable (grouped ++ waiting)
      ∙ ap (λ (l : List ℕ). points_from 0 stable ++ l) (none_left (points_from (0 + count stable) (grouped ++ waiting)) all_points) ∙ append-nil (points_from 0 stable)

  pub history_is : take both.volume.taken both.volume.history ≡ entries_in stable
  history_is = ap (λ (n : ℕ). take n both.volume.history) taken_is ∙ ap (λ (hs : List Happened). take (count stable) hs) (e.history ∙ entries-append stable (grouped ++ waiting)) ∙ take-append_seam (entries_in stable) (entries_in (grouped ++ waiting))

  -- nothing was taken that isn't stable
  pub none_behind : grouped ≡ []
  none_behind = none_left grouped (
      let number = length-events grouped in
      let taken = e.taken in
      let counted = count-append stable grouped in
      let own = taken_is in
      let pointed = e.points_taken in
      let both_points = points_in-append stable grouped in
      let points = e.points_stable in
      let all = none.points in
      let same = none.stable in
      omega (arith, number, taken, counted, own, pointed, both_points, points, all, same))

  pub items : (points_now : List ℕ) → both.volume.points ≡ 0 ∷ points_now → both.log.items ≡ point 0 ∷ items_with noted_in 0 (map lasting (take both.volume.taken both.volume.history)) points_now
  items points_now is = e.items ∙ ap (items_from 0) e.begins.1
      ∙ ap (λ (l : List Item). point 0 ∷ l) (items_are 0 rest ∙ ap (λ (l : List ℕ). items_with noted_in 0 (lasting_in rest) l) behind ∙ ap (λ (hs : List Happened). items_with noted_in 0 (map lasting hs) points_now) (sym front))
    where
      behind : points_from 0 rest ≡ points_now
      behind = ap (λ (l : List ℕ). drop 1 l) (sym (ap (points_from 0) e.begins.1) ∙ sym points_are ∙ is)

      front : take both.volume.taken both.volume.history ≡ entries_in rest
      front = history_is ∙ ap entries_in e.begins.1

pub items_law : ItemsLaw
items_law s page start list points p k =
    let both = k.keeper.both in
    let rest = k.kept.rests.rest in
    let e = rest.events in
    items both rest.none e.0 e.1 e.2 e.3 points k.points_are
    ∙ ap (λ (l : List Lasting). point 0 ∷ items_with noted_in 0 l points) (sym (take-map lasting both.volume.taken both.volume.history) ∙ ap (λ (l : List Lasting). take both.volume.taken l) k.history ∙ ap (λ (n : ℕ). take n list) (sym k.kept.rests.stands.taken))
