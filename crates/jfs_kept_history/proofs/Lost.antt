-- Whatever a crash leaves of a kept volume whose log's last group failed is redone to its history.
use Rattle.std.proofs.Common.{◌≡◌, ◌⊎◌, ◌≤◌, ◌+◌, ◌-◌, ◌*◌, ◌/◌, ◌∷◌, [], ◌++◌, ℕ, List, length, map, take, drop, refl, sym, ap, subst, ◌∙◌, inl, inr, arith}
use Rattle.std.specs.Prelude.{None}
use Rattle.std.proofs.lemmas.List.{length-append, length-replicate, length-take-le, take-map, take-take, append-nil}
use Rattle.std.proofs.Math.Seq.{take-append_seam}
use Rattle.jfs_disk.specs.Image.{Image}
use Rattle.jfs_super.specs.declared.fields.Super.{Super}
use Rattle.jfs_logpages.specs.Records.{log_text, ends_of}
use Rattle.jfs_logpages.specs.Ring.{ReadsPrefix}
use Rattle.jfs_records.specs.Entries.{Item, point, log_records, text_size}
use Rattle.jfs_groups.specs.Text.{AreCounts, FrontOf, items_with}
use Rattle.jfs_log_window.specs.Events.{Event, Pointed, entries_in, count, points_in, points_from, items_from, HasEvents}
use Rattle.jfs_log_window.proofs.Lists.{entries-append, count-append, points-append, points_in-append, length-points, items-append}
use Rattle.jfs_crashes_redone.specs.Crashed.{IsLogLeft}
use Rattle.jfs_legal.specs.served.specs.halves.specs.Entry.{Happened}
use Rattle.jfs_legal.specs.served.specs.halves.specs.Half.{LogHalf, Halves}
use Rattle.jfs_legal.specs.served.specs.halves.specs.Parts.{Parts}
use Rattle.jfs_points_kept.specs.kept_volumes.specs.Logs.{with_log, log_with, IsGroup, IsLogBeside}
use Rattle.jfs_points_kept.specs.kept_volumes.proofs.Beside.{front_law}
use Rattle.jfs_points_kept.specs.kept_volumes.specs.volume_calls.specs.Together.{NoGroup}
use Rattle.jfs_kept_history.specs.Crash.{IsRedoneToHistory}
use Rattle.jfs_kept_history.specs.Kept.{Lasting, lasting, noted_in, IsKeptSince}
use Rattle.jfs_kept_history.specs.Rested.{HasLost, LostLaw}
use Rattle.jfs_kept_history.proofs.Items.{items_are, lasting_in, taken_is, history_is, points_are, none_behind}
use Rattle.jfs_kept_history.proofs.Rested.{redone_with, before}
use Rattle.jfs_kept_history.proofs.Splits.{AllWithin, counts_within, split, only_entries, last_point}

-- one front of two equal lists being the same, so is the rest
rest_is : {A : Type 0} (xs ys zs : List A) → xs ++ ys ≡ xs ++ zs → ys ≡ zs
rest_is [] ys zs e = e
rest_is {A} (x ∷ xs) ys zs e = rest_is xs ys zs (ap (λ (l : List A). drop 1 l) e)

-- ---- the events behind the mount's SYNCPT, as the log has them

-- Some were stable before, and the group had the others.
record Parted (es : List Event) (durable stable : ℕ) : Type 0 where
  front : List Event
  rest : List Event
  all : es ≡ front ++ rest
  many : count front ≡ durable
  counts : points_in front ≡ stable
  group : (k : ℕ) → IsGroup (items_from k rest)

parted : (es : List Event) (taken durable stable : ℕ) (points : List ℕ) → count es ≡ taken → points_from 0 es ≡ points → durable ≤ taken → AreCounts 0 durable (take stable points) → (points ≡ take stable points) ⊎ ((durable ≡ taken) × (points ≡ take stable points ++ taken ∷ [])) → stable ≤ length points
    → Parted es durable stable
parted es taken durable stable points many are within placed (inl all) low =
    let s = split 0 durable es (omega (arith, many, within)) (subst (λ (ps : List ℕ). AllWithin (0 + durable) ps) (sym (are ∙ all)) (subst (λ (m : ℕ). AllWithin m (take stable points)) (let k : durable ≡ 0 + durable = omega arith in k) (counts_within 0 durable (take stable points) placed))) in
    record {
      front = s.front;
      rest = s.rest;
      all = s.all;
      many = s.many;
      counts = (
          let whole = ap (λ (ps : List ℕ). length ps) are in
          let number = length-points 0 es in
          let both = ap points_in s.all ∙ points_in-append s.front s.rest in
          let size = ap (λ (ps : List ℕ). length ps) all in
          let front = length-take-le stable points low in
          omega (arith, whole, number, both, size, front, s.alone));
      group = λ k. inl (only_entries k s.rest s.alone);
    }
parted es taken durable stable points many are within placed (inr (every, all)) low =
    let l = last_point 0 taken es (take stable points) (omega (arith, many)) (are ∙ all) in
    record {
      front = l.front;
      rest = Pointed ∷ [];
      all = l.all;
      many = (let both = ap count l.all ∙ count-append l.front (Pointed ∷ []) in omega (arith, both, many, every));
      counts = (
          let whole = ap (λ (ps : List ℕ). length ps) are in
          let number = length-points 0 es in
          let both = ap points_in l.all ∙ points_in-append l.front (Pointed ∷ []) in
          let size = ap (λ (ps : List ℕ). length ps) all ∙ length-append (take stable points) (taken ∷ []) in
          let front = length-take-le stable points low in
          omega (arith, whole, number, both, size, front));
      group = λ k. inr ([], tt, refl);
    }

-- what stands in the log of the first part
front_items : (es : List Event) (durable stable : ℕ) (s : Parted es durable stable) → items_from 0 s.front ≡ items_with noted_in 0 (take durable (lasting_in es)) (take stable (points_from 0 es))
front_items es durable stable s = items_are 0 s.front
    ∙ ap (λ (l : List Lasting). items_with noted_in 0 l (points_from 0 s.front)) (sym entries)
    ∙ ap (λ (l : List ℕ). items_with noted_in 0 (take durable (lasting_in es)) l) (sym counts)
  where
    entries : take durable (lasting_in es) ≡ lasting_in s.front
    entries = take-map lasting durable (entries_in es) ∙ ap (map lasting)
        (ap (λ (n : ℕ). take n (entries_in es)) (sym s.many) ∙ ap (λ (hs : List Happened). take (count s.front) hs) (ap entries_in s.all ∙ entries-append s.front s.rest) ∙ take-append_seam (entries_in s.front) (entries_in s.rest))

    counts : take stable (points_from 0 es) ≡ points_from 0 s.front
    counts = ap (λ (n : ℕ). take n (points_from 0 es)) (sym s.counts ∙ sym (length-points 0 s.front))
        ∙ ap (λ (l : List ℕ). take (length (points_from 0 s.front)) l) (ap (points_from 0) s.all ∙ points-append 0 s.front s.rest)
        ∙ take-append_seam (points_from 0 s.front) (points_from (0 + count s.front) s.rest)

module _ (s : Super) (page : ℕ → List ℕ) (start : Parts) (list : List Lasting) (points : List ℕ) (p : Parts) (durable stable : ℕ) (old : Image) (long : length s.uuid ≡ 16) (k : IsKeptSince s page start list points p) (r : HasLost s list points p durable stable old) where
  abbrev both : Halves
  both = k.keeper.both

  none : NoGroup both
  none = k.kept.rests.rest.none

  abbrev stables : List Event
  stables = k.kept.rests.rest.events.0

  abbrev waiting : List Event
  waiting = k.kept.rests.rest.events.2

  h : HasEvents both stables k.kept.rests.rest.events.1 waiting
  h = k.kept.rests.rest.events.3

  abbrev es : List Event
  es = h.begins.0

  -- ---- they are the entries that groups have taken, and the sync counts

  many : count es ≡ p.taken
  many = sym (k.kept.rests.stands.taken ∙ taken_is both none stables k.kept.rests.rest.events.1 waiting h ∙ ap count h.begins.1)

  counts : points_from 0 es ≡ points
  counts = ap (λ (l : List ℕ). drop 1 l) (sym (ap (points_from 0) h.begins.1) ∙ sym (points_are both none stables k.kept.rests.rest.events.1 waiting h) ∙ k.points_are)

  entries : lasting_in es ≡ take p.taken list
  entries = ap (map lasting) (sym (history_is both none stables k.kept.rests.rest.events.1 waiting h ∙ ap entries_in h.begins.1))
      ∙ sym (take-map lasting both.volume.taken both.volume.history) ∙ ap (λ (l : List Lasting). take both.volume.taken l) k.history ∙ ap (λ (n : ℕ). take n list) (sym k.kept.rests.stands.taken)

  parts : Parted es durable stable
  parts = parted es p.taken durable stable points many counts r.within r.placed r.rest r.few

  -- ---- the log beside

  abbrev front : List Event
  front = Pointed ∷ parts.front

  abbrev log : LogHalf
  log = log_with both.log.start front parts.rest None

  split_is : stables ++ k.kept.rests.rest.events.1 ≡ front ++ parts.rest
  split_is = ap (λ (l : List Event). stables ++ l) (none_behind both none stables k.kept.rests.rest.events.1 waiting h) ∙ append-nil stables ∙ h.begins.1 ∙ ap (λ (l : List Event). Pointed ∷ l) parts.all

  beside : IsLogBeside k.keeper log
  beside = record {
    events = (front, parts.rest, waiting, front_law both stables k.kept.rests.rest.events.1 waiting front parts.rest both.log.start None h split_is (omega arith));
    group = parts.group (count front);
    told = omega (arith, r.told, k.kept.rests.stands.told, parts.many);
  }

  -- ---- its text

  abbrev ring : ℕ
  ring = s.logpxd.len - 2

  abbrev zeros : List ℕ
  zeros = before s page start list points p old long k r.parts

  abbrev own_items : List Item
  own_items = items_from 0 parts.front

  abbrev own_group : List Item
  own_group = items_from (count front) parts.rest

  items_same : items_with noted_in 0 (take durable list) (take stable points) ≡ own_items
  items_same = sym (front_items es durable stable parts
      ∙ ap (λ (l : List Lasting). items_with noted_in 0 (take durable l) (take stable (points_from 0 es))) entries
      ∙ ap (λ (l : List Lasting). items_with noted_in 0 l (take stable (points_from 0 es))) (take-take durable p.taken list r.within)
      ∙ ap (λ (l : List ℕ). items_with noted_in 0 (take durable list) (take stable l)) counts)

  all_items : items_with noted_in 0 (take p.taken list) points ≡ own_items ++ own_group
  all_items = sym (
      ap (λ (l : List Item). own_items ++ l) (ap (λ (n : ℕ). items_from n parts.rest) (let e : count front ≡ 0 + count parts.front = omega arith in e))
      ∙ sym (items-append 0 parts.front parts.rest)
      ∙ ap (items_from 0) (sym parts.all)
      ∙ items_are 0 es
      ∙ ap (λ (l : List Lasting). items_with noted_in 0 l (points_from 0 es)) entries
      ∙ ap (λ (l : List ℕ). items_with noted_in 0 (take p.taken list) l) counts)

  group_same : r.group ≡ own_group
  group_same = rest_is own_items r.group own_group (ap (λ (l : List Item). l ++ r.group) (sym items_same) ∙ sym r.all ∙ all_items)

  reads : FrontOf ring own_items own_group (drop s.logpxd.addr old)
  reads = subst {A = List Item × List Item} (λ z. FrontOf ring z.0 z.1 (drop s.logpxd.addr old)) (λ i. (items_same i, group_same i)) r.log

  -- the text behind so many bytes
  abbrev ReadsBehind : ℕ → Type 0
  ReadsBehind n = ReadsPrefix ring (zeros ++ log_text (log_records ring n (point 0 ∷ own_items))) (log_text (log_records ring (n + text_size (point 0 ∷ own_items)) own_group)) (ends_of 0 (log_records ring (n + text_size (point 0 ∷ own_items)) own_group))
      (((n + text_size (point 0 ∷ own_items)) + text_size own_group - 1) / 4080) (drop s.logpxd.addr old)

  left : IsLogLeft ring (with_log log both) (drop s.logpxd.addr old)
  left = inl (
    zeros,
    (((length zeros + text_size (point 0 ∷ own_items)) + text_size own_group - 1) / 4080),
    ap (λ (n : ℕ). (n - 1) / 4080) (let e : (length zeros + text_size (point 0 ∷ own_items)) + text_size own_group ≡ length zeros + (text_size (point 0 ∷ own_items) + text_size own_group) = omega arith in e),
    subst ReadsBehind (sym (length-replicate {A = ℕ} (4080 * (ring - 1)) 0)) reads,
  )

  pub redone : IsRedoneToHistory s page start list durable old
  redone = subst (λ (n : ℕ). IsRedoneToHistory s page start list n old) parts.many (redone_with s page start list points p old long k r.parts log beside left)

pub lost_law : (tells crashes : Type 0) → LostLaw tells crashes
lost_law tells crashes t c s page start list points p durable stable old long k r = redone s page start list points p durable stable old long k r
