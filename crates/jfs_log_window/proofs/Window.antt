-- What a crash leaves of a log commits a window of the history.
use Rattle.std.proofs.Common.{◌≡◌, ◌≤◌, ◌<◌, ◌+◌, ◌-◌, ◌*◌, ◌/◌, ◌++◌, ℕ, suc, List, [], ◌∷◌, length, take, drop, map, get_or, zero, max, nat_le, if◌then◌else◌, refl, sym, ap, subst, ◌∙◌, append_assoc, arith}
use Rattle.std.specs.List.{AllByRecursion}
use Rattle.std.proofs.lemmas.List.{append-nil, length-append, length-drop, length-take, drop-append-le, take-append-le, append_cancel_left}
use Rattle.std.proofs.lemmas.Grind.{flat_map-append}
use Rattle.std.proofs.Math.Seq.{take-append_seam, take-append-add, drop-append_seam, get_or-append_seam}
use Rattle.jfs_disk.specs.Image.{Image}
use Rattle.jfs_ranges.specs.declared.edit.Edit.{Edit}
use Rattle.jfs_logfmt.specs.Written.{text_of}
use Rattle.jfs_logfmt.specs.declared.log_record.Record.{Record}
use Rattle.jfs_records.specs.logpages.specs.Back.{Met, FromSync}
use Rattle.jfs_records.specs.logpages.specs.Group.{pages_of}
use Rattle.jfs_records.specs.logpages.specs.Records.{size_of, log_text, ends_of, AreWhole, BeginsAt, IsChain, first_record_of, stand_at}
use Rattle.jfs_records.specs.logpages.specs.Ring.{Reads, ReadsPrefix, last_end}
use Rattle.jfs_records.specs.logpages.proofs.Fronts.{group_front}
use Rattle.jfs_records.specs.logpages.proofs.Moments.{log-reads}
use Rattle.jfs_records.specs.logpages.proofs.Positions.{reaches_back}
use Rattle.jfs_records.specs.logpages.proofs.WrittenRecords.{records_stand, reads}
use Rattle.jfs_records.specs.Committed.{committed, entries_of}
use Rattle.jfs_records.specs.Entries.{Item, point, log_records, text_size}
use Rattle.jfs_records.specs.Laws.{BeginsWithin, IsOwn}
use Rattle.jfs_records.specs.Limits.{ItemsFit}
use Rattle.jfs_records.proofs.Chain.{IsAnew, chain_log, chain_front, whole_log, whole_front, log_anew}
use Rattle.jfs_records.proofs.OwnPoints.{own_premise}
use Rattle.jfs_records.proofs.ReadBack.{front_after, front_back, entries_back, length-items, text_size-append, records-append}
use Rattle.jfs_halves.specs.Entry.{Happened}
use Rattle.jfs_halves.specs.Half.{Halves}
use Rattle.jfs_log_window.specs.Events.{Event, Pointed, entries_in, count, points_in, points_from, items_from, HasEvents}
use Rattle.jfs_log_window.specs.Window.{committed_in, IsWindow, CommitsWindow, IsLogOfHalves, stable_text, group_text, group_ends, WindowLaw, RestLaw}
use Rattle.jfs_log_window.proofs.Lists.{entries-append, count-append, points_in-append, points-append, length-points, items-append, logged-append, logged_are, logged_events, all_own, all_entries}
use Rattle.jfs_log_window.proofs.Cuts.{IsCut, cut}
use Rattle.jfs_log_window.proofs.Points.{begins_at_point, IsSplit, split_at, IsLast, last_point}

-- ---- what is read of a window of the ring

record IsFound (ring first blocks : ℕ) (text : List ℕ) (rs : List Record) : Type 0 where
  m : Met
  ms : List Met
  found : FromSync ring first blocks text m ms
  are : map (λ x. x.is) (m ∷ ms) ≡ rs

found_in : (ring first blocks : ℕ) (front : List ℕ) (rs : List Record) → AreWhole blocks rs → IsChain ring (4080 * first + length front) rs → IsAnew (first_record_of rs) → BeginsAt ring (4080 * first + length front) rs → IsFound ring first blocks (front ++ log_text rs) rs
found_in ring first blocks front [] gs c anew begins = absurd begins
found_in ring first blocks front (r ∷ rs) gs c anew begins = record {
  m = record { start = length front; end = length front + size_of r; is = r };
  ms = stand_at (length front + size_of r) rs;
  found = reads ring first blocks (length front) (4080 * first + length front) front r rs gs refl refl c anew begins;
  are = records_stand (length front) (r ∷ rs);
}

behind_fits : (blocks : ℕ) (pre post : List Item) → ItemsFit blocks (pre ++ post) → ItemsFit blocks post
behind_fits blocks [] post fits = fits
behind_fits blocks (i ∷ is) post fits = behind_fits blocks is post fits.1

-- ---- which entries these are

-- Events up to the SYNCPT where redo begins, and those behind it, of which `number` transactions are found; `kept` are found at least.
module _ (before behind : List Event) (number : ℕ) (kept : List Event) (rest : List Event) (parts : before ++ Pointed ∷ behind ≡ kept ++ rest) (new : ℕ)
    (same : committed_in (entries_in before) ++ take number (committed_in (entries_in behind)) ≡ committed_in (entries_in kept) ++ take new (committed_in (entries_in rest))) where
  abbrev pub all : List Event
  all = kept ++ rest

  abbrev pub found_all : List (List Edit)
  found_all = committed_in (entries_in kept) ++ take new (committed_in (entries_in rest))

  abbrev pub total : ℕ
  total = length (committed_in (entries_in kept)) + new

  abbrev pub cut_is : (n : ℕ) × IsCut (entries_in all) total n
  cut_is = cut (entries_in all) total

  abbrev pub n : ℕ
  n = cut_is.0

  front_is : committed_in (take n (entries_in all)) ≡ found_all
  front_is = cut_is.1.are ∙ ap (take total) (logged_events kept rest) ∙ take-append-add (committed_in (entries_in kept)) (committed_in (entries_in rest)) new

  few : length found_all ≤ total
  few = let l = length-append (committed_in (entries_in kept)) (take new (committed_in (entries_in rest))) in let t = length-take new (committed_in (entries_in rest)) in omega (arith, l, t)

  pub kept_there : count kept ≤ n
  kept_there = cut_is.1.longest (count kept) (omega (arith, count-append kept rest))
      (let e = ap (λ (l : List Happened). length (committed_in l)) (ap (take (count kept)) (entries-append kept rest) ∙ take-append_seam (entries_in kept) (entries_in rest)) in omega (arith, e))

  pub within : n ≤ count all
  within = cut_is.1.within

  entries_are : entries_in all ≡ entries_in before ++ entries_in behind
  entries_are = ap entries_in (sym parts) ∙ entries-append before (Pointed ∷ behind)

  pub begun : count before ≤ n
  begun = cut_is.1.longest (count before) (omega (arith, ap length entries_are, length-append (entries_in before) (entries_in behind)))
      (let e = ap (λ (l : List Happened). length (committed_in l)) (ap (take (count before)) entries_are ∙ take-append_seam (entries_in before) (entries_in behind)) in
      let f = ap length same in omega (arith, e, f, few, length-append (committed_in (entries_in before)) (take number (committed_in (entries_in behind)))))

  abbrev later : ℕ
  later = n - count before

  split : take n (entries_in all) ≡ entries_in before ++ take later (entries_in behind)
  split = let sum : n ≡ count before + later = omega (arith, begun) in ap (take n) entries_are ∙ ap (λ (k : ℕ). take k (entries_in before ++ entries_in behind)) sum ∙ take-append-add (entries_in before) (entries_in behind) later

  pub window_is : committed_in (drop (count before) (take n (entries_in all))) ≡ take number (committed_in (entries_in behind))
  window_is = ap (λ (l : List Happened). committed_in (drop (count before) l)) split ∙ ap committed_in (drop-append_seam (entries_in before) (take later (entries_in behind)))
      ∙ append_cancel_left (committed_in (entries_in before)) (committed_in (take later (entries_in behind))) (take number (committed_in (entries_in behind)))
      (sym (logged-append (entries_in before) (take later (entries_in behind))) ∙ ap committed_in (sym split) ∙ front_is ∙ sym same)

-- ---- the log of halves

module _ (ring blocks high : ℕ) (log : Image) (front : List ℕ) (both : Halves) (stable grouped waiting : List Event) (e : HasEvents both stable grouped waiting) (is_log : IsLogOfHalves ring blocks both)
    (high_is : high ≡ (length front + (text_size both.log.items + text_size both.log.group) - 1) / 4080)
    (prefix : ReadsPrefix ring (stable_text ring front both.log) (group_text ring front both.log) (group_ends ring front both.log) high log) where
  newest : IsLast stable
  newest = last_point stable e.begins.0 e.begins.1

  -- what stands in the log before the newest SYNCPT that is stable, and from it on
  abbrev old : List Item
  old = items_from 0 newest.before

  abbrev since : List Item
  since = items_from (count newest.before) newest.behind

  items_are : both.log.items ≡ old ++ point 0 ∷ since
  items_are = e.items ∙ ap (items_from 0) newest.parts ∙ items-append 0 newest.before (Pointed ∷ newest.behind) ∙ ap (λ (n : ℕ). old ++ items_from n (Pointed ∷ newest.behind)) (omega arith)

  abbrev group : List Item
  group = both.log.group

  abbrev start : ℕ
  start = length front

  -- where it begins
  abbrev place : ℕ
  place = start + text_size old

  size_is : text_size both.log.items ≡ text_size old + text_size (point 0 ∷ since)
  size_is = ap text_size items_are ∙ text_size-append old (point 0 ∷ since)

  abbrev ahead : List ℕ
  ahead = front ++ log_text (log_records ring start old)

  length_ahead : length ahead ≡ place
  length_ahead = omega (arith, length-append front (log_text (log_records ring start old)), length-items ring start old)

  abbrev written : List Record
  written = log_records ring place (point 0 ∷ since)

  abbrev new : List Record
  new = log_records ring (place + text_size (point 0 ∷ since)) group

  new_is : log_records ring (start + text_size both.log.items) group ≡ new
  new_is = ap (λ (n : ℕ). log_records ring n group) (omega (arith, size_is))

  stable_is : stable_text ring front both.log ≡ ahead ++ log_text written
  stable_is =
      ap (λ (is : List Item). front ++ log_text (log_records ring start is)) items_are
      ∙ ap (λ (rs : List Record). front ++ log_text rs) (records-append ring start old (point 0 ∷ since))
      ∙ ap (λ (l : List ℕ). front ++ l) (flat_map-append text_of (log_records ring start old) written)
      ∙ sym (append_assoc front (log_text (log_records ring start old)) (log_text written))

  -- ---- the records that are found

  k : (k : ℕ) × (take (last_end (ends_of 0 new) prefix.upto) (log_text new) ≡ log_text (take k new))
  k = group_front prefix.upto new

  own : AllByRecursion IsOwn ((point 0 ∷ since) ++ group)
  own = subst (AllByRecursion IsOwn) (items-append (count newest.before) (Pointed ∷ newest.behind) grouped ∙ ap (λ (l : List Item). (point 0 ∷ since) ++ l) (sym group_is)) (all_own (count newest.before) ((Pointed ∷ newest.behind) ++ grouped))
    where
      group_is : group ≡ items_from (count newest.before + count (Pointed ∷ newest.behind)) grouped
      group_is = e.group ∙ ap (λ (n : ℕ). items_from n grouped) (ap count newest.parts ∙ count-append newest.before (Pointed ∷ newest.behind))

  items_behind : items_from (count newest.before) ((Pointed ∷ newest.behind) ++ grouped) ≡ (point 0 ∷ since) ++ group
  items_behind = items-append (count newest.before) (Pointed ∷ newest.behind) grouped
      ∙ ap (λ (n : ℕ). (point 0 ∷ since) ++ items_from n grouped) (sym (ap count newest.parts ∙ count-append newest.before (Pointed ∷ newest.behind)))
      ∙ ap (λ (l : List Item). (point 0 ∷ since) ++ l) (sym e.group)

  b : BeginsWithin ring place (written ++ take k.0 new) ((point 0 ∷ since) ++ group)
  b = own_premise ring place since group own k.0

  abbrev at : ℕ
  at = place + text_size b.pre

  abbrev rs : List Record
  rs = take b.some (log_records ring at b.post)

  own_post : AllByRecursion IsOwn b.post
  own_post = behind_own b.pre b.post (subst (AllByRecursion IsOwn) b.parts own)
    where
      behind_own : (pre post : List Item) → AllByRecursion IsOwn (pre ++ post) → AllByRecursion IsOwn post
      behind_own [] post all = all
      behind_own (i ∷ pre) post all = behind_own pre post all.1

  head : (rest : List Item) × (b.post ≡ point 0 ∷ rest)
  head = begins_at_point ring at b.post b.some own_post b.begins

  events : IsSplit (count newest.before) ((Pointed ∷ newest.behind) ++ grouped) b.pre head.0
  events = split_at (count newest.before) ((Pointed ∷ newest.behind) ++ grouped) b.pre head.0 0 (items_behind ∙ b.parts ∙ ap (λ (l : List Item). b.pre ++ l) head.1)

  -- ---- the text of the window

  reached : 4080 * prefix.first ≤ place
  reached = reaches_back ring (start + (text_size both.log.items + text_size both.log.group)) place high prefix.first (omega (arith, size_is)) high_is
      (let r = is_log.room old since items_are (all_entries (count newest.before) newest.behind newest.none) in
      let s : start + (text_size both.log.items + text_size both.log.group) - place ≡ text_size (point 0 ∷ since) + text_size both.log.group = omega (arith, size_is) in
      subst (λ (n : ℕ). pages_of n ≤ ring / 2) (sym s) r)
      prefix.reach

  abbrev window : List ℕ
  window = drop (4080 * prefix.first) ahead ++ log_text (log_records ring place b.pre)

  place_is : 4080 * prefix.first + length window ≡ at
  place_is = omega (arith, reached, length_ahead, length-append (drop (4080 * prefix.first) ahead) (log_text (log_records ring place b.pre)), length-drop (4080 * prefix.first) ahead, length-items ring place b.pre)

  text_is : drop (4080 * prefix.first) (stable_text ring front both.log ++ take (last_end (group_ends ring front both.log) prefix.upto) (group_text ring front both.log)) ≡ window ++ log_text rs
  text_is =
      ap (λ (rs : List Record). drop (4080 * prefix.first) (stable_text ring front both.log ++ take (last_end (ends_of 0 rs) prefix.upto) (log_text rs))) new_is
      ∙ ap (λ (l : List ℕ). drop (4080 * prefix.first) (l ++ take (last_end (ends_of 0 new) prefix.upto) (log_text new))) stable_is
      ∙ ap (λ (l : List ℕ). drop (4080 * prefix.first) ((ahead ++ log_text written) ++ l)) k.1
      ∙ ap (λ (l : List ℕ). drop (4080 * prefix.first) l) (append_assoc ahead (log_text written) (log_text (take k.0 new))
      ∙ ap (λ (l : List ℕ). ahead ++ l) (sym (flat_map-append text_of written (take k.0 new)) ∙ ap log_text b.are ∙ flat_map-append text_of (log_records ring place b.pre) rs))
      ∙ drop-append-le (4080 * prefix.first) ahead (log_text (log_records ring place b.pre) ++ log_text rs) (omega (arith, reached, length_ahead))
      ∙ sym (append_assoc (drop (4080 * prefix.first) ahead) (log_text (log_records ring place b.pre)) (log_text rs))

  fit : ItemsFit blocks b.post
  fit = behind_fits blocks b.pre b.post (subst (ItemsFit blocks) b.parts (behind_fits blocks old ((point 0 ∷ since) ++ group)
      (subst (ItemsFit blocks) (ap (λ (l : List Item). l ++ group) items_are ∙ append_assoc old (point 0 ∷ since) group) is_log.fit)))

  here : IsFound ring prefix.first blocks (window ++ log_text rs) rs
  here = found_in ring prefix.first blocks window rs
      (whole_front blocks (log_records ring at b.post) b.some (whole_log ring blocks at (omega (arith, is_log.some)) is_log.most is_log.size b.post fit))
      (subst (λ (n : ℕ). IsChain ring n rs) (sym place_is) (chain_front ring at (log_records ring at b.post) b.some (chain_log ring at b.post)))
      (log_anew ring at b.post b.some)
      (subst (λ (n : ℕ). BeginsAt ring n rs) (sym place_is) b.begins)

  -- ---- their transactions

  number : (n : ℕ) × (n ≤ length (entries_of b.post)) × (committed rs ≡ take n (entries_of b.post))
  number = front_back ring at b.post b.some

  more : (n : ℕ) × (n ≤ length (entries_of group)) × (committed (written ++ take k.0 new) ≡ entries_of (point 0 ∷ since) ++ take n (entries_of group))
  more = front_after ring place (point 0 ∷ since) group k.0

  post_is : entries_of b.post ≡ committed_in (entries_in events.behind)
  post_is = ap entries_of head.1 ∙ ap entries_of (sym events.rest_is) ∙ logged_are (count newest.before + count events.before) events.behind

  group_is : entries_of group ≡ committed_in (entries_in grouped)
  group_is = ap entries_of e.group ∙ logged_are (count stable) grouped

  -- before the SYNCPT where redo begins
  abbrev before : List Event
  before = newest.before ++ events.before

  parts : before ++ Pointed ∷ events.behind ≡ stable ++ grouped
  parts = append_assoc newest.before events.before (Pointed ∷ events.behind) ∙ ap (λ (l : List Event). newest.before ++ l) (sym events.parts) ∙ sym (append_assoc newest.before (Pointed ∷ newest.behind) grouped) ∙ ap (λ (l : List Event). l ++ grouped) (sym newest.parts)

  both_ways : entries_of b.pre ++ take number.0 (entries_of b.post) ≡ entries_of (point 0 ∷ since) ++ take more.0 (entries_of group)
  both_ways = ap (λ (l : List (List Edit)). entries_of b.pre ++ l) (sym number.2) ∙ sym (entries_back ring place b.pre rs) ∙ ap committed (sym b.are) ∙ more.2

  same : committed_in (entries_in before) ++ take number.0 (committed_in (entries_in events.behind)) ≡ committed_in (entries_in stable) ++ take more.0 (committed_in (entries_in grouped))
  same =
      ap (λ (l : List (List Edit)). l ++ take number.0 (committed_in (entries_in events.behind))) (logged_events newest.before events.before)
      ∙ append_assoc (committed_in (entries_in newest.before)) (committed_in (entries_in events.before)) (take number.0 (committed_in (entries_in events.behind)))
      ∙ ap (λ (l : List (List Edit)). committed_in (entries_in newest.before) ++ l) middle
      ∙ sym (append_assoc (committed_in (entries_in newest.before)) (committed_in (entries_in newest.behind)) (take more.0 (committed_in (entries_in grouped))))
      ∙ ap (λ (l : List (List Edit)). l ++ take more.0 (committed_in (entries_in grouped))) (sym (ap (λ (l : List Event). committed_in (entries_in l)) newest.parts ∙ logged_events newest.before (Pointed ∷ newest.behind)))
    where
      middle : committed_in (entries_in events.before) ++ take number.0 (committed_in (entries_in events.behind)) ≡ committed_in (entries_in newest.behind) ++ take more.0 (committed_in (entries_in grouped))
      middle =
          ap (λ (l : List (List Edit)). l ++ take number.0 (committed_in (entries_in events.behind))) (sym (ap entries_of (sym events.pre_is) ∙ logged_are (count newest.before) events.before))
          ∙ ap (λ (l : List (List Edit)). entries_of b.pre ++ take number.0 l) (sym post_is)
          ∙ both_ways
          ∙ ap (λ (l : List (List Edit)). l ++ take more.0 (entries_of group)) (logged_are (count newest.before) newest.behind)
          ∙ ap (λ (l : List (List Edit)). committed_in (entries_in newest.behind) ++ take more.0 l) group_is

  abbrev upto : ℕ
  upto = (cut_is before events.behind number.0 stable grouped parts more.0 same).0

  all_within : upto ≤ count (stable ++ grouped)
  all_within = within before events.behind number.0 stable grouped parts more.0 same

  points_are : both.volume.points ≡ points_from 0 before ++ count before ∷ points_from (count before) (events.behind ++ waiting)
  points_are = e.points ∙ ap (points_from 0) (sym (append_assoc stable grouped waiting) ∙ ap (λ (l : List Event). l ++ waiting) (sym parts) ∙ append_assoc before (Pointed ∷ events.behind) waiting) ∙ points-append 0 before (Pointed ∷ (events.behind ++ waiting))
      ∙ ap (λ (n : ℕ). points_from 0 before ++ points_from n (Pointed ∷ (events.behind ++ waiting))) (omega arith)

  is_window : IsWindow both (count before) upto
  is_window = record {
    place = (
      points_in before,
      omega (arith, e.points_stable, ap points_in newest.parts, points_in-append newest.before (Pointed ∷ newest.behind), newest.none, points_in-append newest.before events.before),
      omega (arith, e.points_taken, ap points_in parts, points_in-append before (Pointed ∷ events.behind)),
      sym (ap (λ (l : List ℕ). get_or l (points_in before) 0) points_are ∙ ap (λ (j : ℕ). get_or (points_from 0 before ++ count before ∷ points_from (count before) (events.behind ++ waiting)) j 0) (sym (length-points 0 before))
          ∙ get_or-append_seam (points_from 0 before) (count before) (points_from (count before) (events.behind ++ waiting)) 0),
    );
    durable = omega (arith, e.durable, kept_there before events.behind number.0 stable grouped parts more.0 same);
    taken = omega (arith, e.taken, all_within);
  }

  pub commits : CommitsWindow ring blocks log both
  commits = record {
    first = prefix.first;
    text = window ++ log_text rs;
    reads = subst (λ (l : List ℕ). Reads ring log prefix.first l) text_is prefix.reads;
    m = here.m;
    ms = here.ms;
    found = here.found;
    c = count before;
    n = upto;
    window = is_window;
    are = ap committed here.are ∙ number.2 ∙ ap (take number.0) post_is ∙ sym (window_is before events.behind number.0 stable grouped parts more.0 same)
        ∙ ap (λ (l : List Happened). committed_in (drop (count before) l)) (sym (ap (take upto) (e.history ∙ ap entries_in (sym (append_assoc stable grouped waiting)) ∙ entries-append (stable ++ grouped) waiting)
        ∙ take-append-le upto (entries_in (stable ++ grouped)) (entries_in waiting) all_within));
  }

pub window_law : WindowLaw
window_law ring blocks high log front both is_log high_is prefix = commits ring blocks high log front both is_log.events.0 is_log.events.1 is_log.events.2 is_log.events.3 is_log high_is prefix

-- ---- before a group is written

past : (end rest : ℕ) → 0 < end → (if nat_le end 0 then max end rest else rest) ≡ rest
past zero rest low = absurd (omega (arith, low))
past (suc end) rest low = grind arith

no_end : (from : ℕ) (list : List Record) → last_end (ends_of from list) 0 ≡ 0
no_end from [] = refl
no_end from (r ∷ list) = past (from + size_of r) (last_end (ends_of (from + size_of r) list) 0) (omega arith) ∙ no_end (from + size_of r) list

pub rest_law : RestLaw
rest_law last blocks log front ends both is_log holds = window_law last.ring blocks high log front both is_log refl (record {
  upto = 0;
  first = last.number + 1 - last.ring / 2;
  reach = omega (arith, holds.page.long, longer);
  reads = subst (λ (l : List ℕ). Reads last.ring log first (drop (4080 * first) l)) (sym nothing) (log-reads last.ring last.number last.fill last.page.0 (stable_text last.ring front both.log) ends log is_log.some holds.page holds.ring);
})
  where
    first : ℕ
    first = last.number + 1 - last.ring / 2

    high : ℕ
    high = (length front + (text_size both.log.items + text_size both.log.group) - 1) / 4080

    new : List Record
    new = log_records last.ring (length front + text_size both.log.items) both.log.group

    nothing : stable_text last.ring front both.log ++ take (last_end (ends_of 0 new) 0) (log_text new) ≡ stable_text last.ring front both.log
    nothing = ap (λ (n : ℕ). stable_text last.ring front both.log ++ take n (log_text new)) (no_end 0 new) ∙ append-nil (stable_text last.ring front both.log)

    longer : last.number ≤ high
    longer = omega (arith, holds.page.size, holds.page.starts, length-append front (log_text (log_records last.ring (length front) both.log.items)), length-items last.ring (length front) both.log.items)
