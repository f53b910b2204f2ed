-- What a log side stands for, before and after a group.
use Rattle.std.proofs.Common.{◌≡◌, ◌⊎◌, ◌≤◌, ℕ, ◌+◌, ◌*◌, ◌^◌, List, [], ◌∷◌, ◌++◌, length, take, drop, Option, Some, None, refl, sym, ap, subst, ◌∙◌, arith, append_assoc, append-nil, inl, inr}
use Rattle.std.proofs.lemmas.List.{length-append}
use Rattle.std.proofs.Math.Seq.{take-append_seam, drop-append_seam}
use Rattle.jfs_disk.specs.Crash.{PageHistory, DiskState, IsCrashPage, last_of, Leaves}
use Rattle.jfs_disk.specs.declared.disk.Fault.{Fault}
use Rattle.jfs_logpages.specs.declared.group_text.GroupText.{GroupText}
use Rattle.jfs_logpages.specs.Group.{pages_of, room_of, position_of}
use Rattle.jfs_logpages.specs.Records.{log_text, ends_of}
use Rattle.jfs_records.specs.Records.{Noted}
use Rattle.jfs_records.specs.Entries.{Item, point, log_records}
use Rattle.jfs_records.proofs.ReadBack.{length-items}
use Rattle.jfs_turns.specs.Lists.{IsPrefix}
use Rattle.jfs_groups.specs.Points.{syncs, IsMarked}
use Rattle.jfs_groups.specs.Start.{LogStart, Grows}
use Rattle.jfs_groups.specs.Text.{AreCounts, FrontOf, HoldsText, text_with, items_from, items_with, end_of}
use Rattle.jfs_groups.specs.Log.{LogData, IsRunning, IsLost, LogStandsFor, FreshStands}
use Rattle.jfs_groups.specs.Group.{IsGroupOf}
use Rattle.jfs_groups.specs.Written.{IsGroupWritten, IsGroupLost}
use Rattle.jfs_groups.proofs.Counts.{rose_on}
use Rattle.jfs_groups.proofs.Points.{marked_on}
use Rattle.jfs_groups.proofs.Text.{higher, counted, all_more, all_point, end_grows, front_left, grown, fresh_holds}

none_some : (f : Fault) → ◌≡◌ {A = Option Fault} None (Some f) → ⊥
none_some f e = absurd (cc)

module _ {E : Type 0} (logs : E → Option (List Noted)) (tells crashes : Type 0) where
  -- the group behind the text of a log that runs
  record Follows (ring : ℕ) (l : LogData) (list more : List E) (points : ℕ) (group : GroupText) : Type 0 where
    pub last : group.last ≡ length (list ++ more)
    pub bytes : group.bytes.items ≡ log_text (log_records ring (position_of l.last) (items_from logs (length list) more))
    pub ends : group.ends.items ≡ ends_of 0 (log_records ring (position_of l.last) (items_from logs (length list) more))
    pub room : pages_of (length group.bytes.items) ≤ room_of ring
    pub place : position_of l.last + length group.bytes.items ≡ end_of logs ring (list ++ more) points
    pub numbers : end_of logs ring (list ++ more) points ≤ 4080 * 2 ^ 32

  follows : (ring : ℕ) (l : LogData) (list more : List E) (taken durable : ℕ) (points : List ℕ) (stable : ℕ) (group : GroupText) → IsRunning logs tells crashes ring l list taken durable points stable → IsGroupOf logs ring (list ++ more) taken (syncs points) group → Follows ring l list more (syncs points) group
  follows ring l list more taken durable points stable group r g = record {
    last = g.last;
    bytes = bytes;
    ends = ends;
    room = g.room;
    place = omega (arith, r.place, ap (λ (b : List ℕ). length b) bytes, length-items ring (position_of l.last) (items_from logs (length list) more), end_grows logs ring (syncs points) list more);
    numbers = g.numbers;
  }
    where
      is : taken ≡ length list
      is = sym r.taken_all ∙ r.durable_all

      front : take taken (list ++ more) ≡ list
      front = ap (λ (k : ℕ). take k (list ++ more)) is ∙ take-append_seam list more

      rest : drop taken (list ++ more) ≡ more
      rest = ap (λ (k : ℕ). drop k (list ++ more)) is ∙ drop-append_seam list more

      place : end_of logs ring (take taken (list ++ more)) (syncs points) ≡ position_of l.last
      place = ap (λ (es : List E). end_of logs ring es (syncs points)) front ∙ sym r.place

      bytes : group.bytes.items ≡ log_text (log_records ring (position_of l.last) (items_from logs (length list) more))
      bytes = g.bytes ∙ ap (λ (at : ℕ). log_text (log_records ring at (items_from logs taken (drop taken (list ++ more))))) place
          ∙ ap (λ (es : List E). log_text (log_records ring (position_of l.last) (items_from logs taken es))) rest
          ∙ ap (λ (k : ℕ). log_text (log_records ring (position_of l.last) (items_from logs k more))) is

      ends : group.ends.items ≡ ends_of 0 (log_records ring (position_of l.last) (items_from logs (length list) more))
      ends = g.ends ∙ ap (λ (at : ℕ). ends_of 0 (log_records ring at (items_from logs taken (drop taken (list ++ more))))) place
          ∙ ap (λ (es : List E). ends_of 0 (log_records ring (position_of l.last) (items_from logs taken es))) rest
          ∙ ap (λ (k : ℕ). ends_of 0 (log_records ring (position_of l.last) (items_from logs k more))) is

  -- the conditions of the write
  pub may_write : (start : LogStart) (l : LogData) (list whole : List E) (taken durable : ℕ) (points : List ℕ) (stable : ℕ) (group : GroupText) → IsPrefix list whole → LogStandsFor logs tells crashes start l list taken durable points stable → l.halted ≡ None → IsGroupOf logs start.ring whole taken (syncs points) group
      → (pages_of (length group.bytes.items) ≤ room_of l.last.ring) × (l.durable ≤ group.last) × (position_of l.last + length group.bytes.items ≤ 4080 * 2 ^ 32)
  may_write start l list whole taken durable points stable group pre s runs g =
      let r = s.runs runs in
      let f = follows start.ring l list pre.0 taken durable points stable group r (subst (λ (es : List E). IsGroupOf logs start.ring es taken (syncs points) group) (sym pre.1) g) in (
        subst (λ (k : ℕ). pages_of (length group.bytes.items) ≤ room_of k) (sym s.ring) f.room,
        omega (arith, s.count, r.durable_all, f.last, length-append list pre.0),
        omega (arith, f.place, f.numbers),
      )

  -- a group that is written: the log side stands for the whole list
  pub written_stands : (start : LogStart) (l m : LogData) (list whole : List E) (taken durable : ℕ) (points : List ℕ) (stable : ℕ) (group : GroupText) → IsPrefix list whole → LogStandsFor logs tells crashes start l list taken durable points stable → l.halted ≡ None → IsGroupOf logs start.ring whole taken (syncs points) group
      → IsGroupWritten tells crashes group l m → LogStandsFor logs tells crashes start m whole (length whole) (length whole) points stable
  written_stands start l m list whole taken durable points stable group pre s runs g w =
      subst (λ (es : List E). LogStandsFor logs tells crashes start m es (length es) (length es) points stable) pre.1 (record {
        ring = w.ring ∙ s.ring;
        pages = w.pages ∙ s.pages;
        few = s.few;
        faults = subst (λ (n : ℕ). Grows start.faults n) (sym w.faults) s.faults;
        count = w.durable ∙ f.last;
        stable = w.points ∙ s.stable;
        runs = λ _. record {
          taken_all = refl;
          durable_all = refl;
          unmarked = r.unmarked;
          stable_all = r.stable_all;
          place = w.place ∙ f.place;
          holds = λ t. grown logs start.ring points list pre.0 l.last m.last l.image m.image group.bytes.items f.bytes (r.holds t) (w.holds t);
          resting = λ k. w.resting k (r.resting k);
        };
        super = λ t k page crash. s.super t k page (subst (λ (h : PageHistory). IsCrashPage h page) (w.super k (r.resting k)) crash);
        lost = λ t k fault e. absurd (none_some fault (sym w.runs ∙ e));
        halts = λ fault e. absurd (none_some fault (sym w.runs ∙ e));
      })
    where
      r : IsRunning logs tells crashes start.ring l list taken durable points stable
      r = s.runs runs

      f : Follows start.ring l list pre.0 (syncs points) group
      f = follows start.ring l list pre.0 taken durable points stable group r (subst (λ (es : List E). IsGroupOf logs start.ring es taken (syncs points) group) (sym pre.1) g)

  -- ---- one that isn't

  -- what is lost stays so where more entries are known, and marks
  pub more_lost : (ring : ℕ) (past : List DiskState) (list other : List E) (taken durable : ℕ) (points others : List ℕ) (stable : ℕ) → IsPrefix list other → IsMarked points others → IsLost logs ring past list taken durable points stable → IsLost logs ring past other taken durable others stable
  more_lost ring past list other taken durable points others stable es ps lost = record {
    entries = lost.entries;
    counts = lost.counts;
    entries_are = (lost.entries_are.0 ++ es.0, sym (append_assoc lost.entries lost.entries_are.0 es.0) ∙ ap (λ (l : List E). l ++ es.0) lost.entries_are.1 ∙ es.1);
    taken_are = lost.taken_are;
    counts_are = marked_on lost.counts points others lost.counts_are ps;
    placed = lost.placed;
    durable_within = lost.durable_within;
    stable_within = lost.stable_within;
    stable_behind = lost.stable_behind;
    rest = lost.rest;
    group = lost.group;
    all = lost.all;
    leaves = lost.leaves;
  }

  -- a group behind all that is stable: of entries, or of one syncpoint
  pub lost_behind : (ring : ℕ) (past : List DiskState) (list more : List E) (durable : ℕ) (points counts : List ℕ) (stable : ℕ) (group : List Item) → durable ≡ length list → stable ≡ length points → AreCounts 0 (length list) points → AreCounts 0 (length (list ++ more)) (points ++ counts)
      → (counts ≡ []) ⊎ ((more ≡ []) × (counts ≡ length list ∷ []))
      → items_with logs 0 (list ++ more) (points ++ counts) ≡ items_with logs 0 list points ++ group → Leaves (FrontOf ring (items_with logs 0 list points) group) (last_of past) → IsLost logs ring past (list ++ more) (length (list ++ more)) durable (points ++ counts) stable
  lost_behind ring past list more durable points counts stable group all_durable all_stable behind placed kind all leaves = record {
    entries = list ++ more;
    counts = points ++ counts;
    entries_are = ([], append-nil (list ++ more));
    taken_are = refl;
    counts_are = ([], append-nil (points ++ counts), refl);
    placed = placed;
    durable_within = omega (arith, all_durable, length-append list more);
    stable_within = omega (arith, all_stable, length-append points counts);
    stable_behind = subst {A = ℕ × List ℕ} (λ z. AreCounts 0 z.0 z.1) (λ i. (sym all_durable i, sym points_are i)) behind;
    rest = rest kind;
    group = group;
    all = all ∙ ap (λ (is : List Item). is ++ group) (sym same);
    leaves = subst (λ (is : List Item). Leaves (FrontOf ring is group) (last_of past)) (sym same) leaves;
  }
    where
      points_are : take stable (points ++ counts) ≡ points
      points_are = ap (λ (k : ℕ). take k (points ++ counts)) all_stable ∙ take-append_seam points counts

      rest : (counts ≡ []) ⊎ ((more ≡ []) × (counts ≡ length list ∷ []))
          → (points ++ counts ≡ take stable (points ++ counts)) ⊎ ((durable ≡ length (list ++ more)) × (points ++ counts ≡ take stable (points ++ counts) ++ length (list ++ more) ∷ []))
      rest (inl none) = inl (ap (λ (cs : List ℕ). points ++ cs) none ∙ append-nil points ∙ sym points_are)
      rest (inr (no_more, one)) = inr (all_durable ∙ sym whole, subst {A = List ℕ × ℕ} (λ z. points ++ counts ≡ z.0 ++ z.1 ∷ []) (λ i. (sym points_are i, sym whole i)) (ap (λ (cs : List ℕ). points ++ cs) one))
        where
          whole : length (list ++ more) ≡ length list
          whole = ap (λ (es : List E). length (list ++ es)) no_more ∙ ap (λ (es : List E). length es) (append-nil list)

      same : items_with logs 0 (take durable (list ++ more)) (take stable (points ++ counts)) ≡ items_with logs 0 list points
      same = ap (λ (k : ℕ). items_with logs 0 (take k (list ++ more)) (take stable (points ++ counts))) all_durable
          ∙ ap (λ (es : List E). items_with logs 0 es (take stable (points ++ counts))) (take-append_seam list more)
          ∙ ap (λ (ps : List ℕ). items_with logs 0 list ps) points_are

  -- of entries
  pub group_lost : (start : LogStart) (l m : LogData) (list whole : List E) (taken durable : ℕ) (points : List ℕ) (stable : ℕ) (group : GroupText) (fault : Fault) → IsPrefix list whole → LogStandsFor logs tells crashes start l list taken durable points stable → l.halted ≡ None
      → IsGroupOf logs start.ring whole taken (syncs points) group → IsGroupLost tells crashes group fault l m → tells → crashes → IsLost logs start.ring m.past whole (length whole) durable points stable
  group_lost start l m list whole taken durable points stable group fault pre s runs g lost t k =
      subst {A = List E × List ℕ} (λ z. IsLost logs start.ring m.past z.0 (length z.0) durable z.1 stable) (λ i. (pre.1 i, append-nil points i))
      (lost_behind start.ring m.past list pre.0 durable points [] stable (items_from logs (length list) pre.0) r.durable_all r.stable_all h.counts
      (subst (λ (ps : List ℕ). AreCounts 0 (length (list ++ pre.0)) ps) (sym (append-nil points)) (higher 0 (length list) (length (list ++ pre.0)) points (omega (arith, length-append list pre.0)) h.counts)) (inl refl)
      (ap (λ (ps : List ℕ). items_with logs 0 (list ++ pre.0) ps) (append-nil points) ∙ all_more logs list pre.0 points h.counts)
      (front_left logs start.ring (items_with logs 0 list points) (items_from logs (length list) pre.0) l.last h.ends l.image group.bytes.items group.ends.items (last_of m.past) s.ring h.holds f.bytes f.ends
      (lost.leaves t k (text_with start.ring (items_with logs 0 list points)) h.ends h.holds (r.resting k))))
    where
      r : IsRunning logs tells crashes start.ring l list taken durable points stable
      r = s.runs runs

      f : Follows start.ring l list pre.0 (syncs points) group
      f = follows start.ring l list pre.0 taken durable points stable group r (subst (λ (es : List E). IsGroupOf logs start.ring es taken (syncs points) group) (sym pre.1) g)

      h : HoldsText logs start.ring list points l.last l.image
      h = r.holds t

  -- or of one syncpoint more
  pub point_lost : (start : LogStart) (l m : LogData) (list : List E) (taken durable : ℕ) (points : List ℕ) (stable : ℕ) (group : GroupText) (fault : Fault) → LogStandsFor logs tells crashes start l list taken durable points stable → l.halted ≡ None
      → group.bytes.items ≡ log_text (log_records start.ring (position_of l.last) (point 0 ∷ [])) → group.ends.items ≡ ends_of 0 (log_records start.ring (position_of l.last) (point 0 ∷ [])) → IsGroupLost tells crashes group fault l m
      → tells → crashes → IsLost logs start.ring m.past list taken durable (points ++ length list ∷ []) stable
  point_lost start l m list taken durable points stable group fault s runs bytes ends lost t k =
      subst {A = List E × ℕ} (λ z. IsLost logs start.ring m.past z.0 z.1 durable (points ++ length list ∷ []) stable) (λ i. (append-nil list i, all i))
      (lost_behind start.ring m.past list [] durable points (length list ∷ []) stable (point 0 ∷ []) r.durable_all r.stable_all h.counts
      (subst (λ (es : List E). AreCounts 0 (length es) (points ++ length list ∷ [])) (sym (append-nil list)) (counted 0 (length list) points h.counts)) (inr (refl, refl))
      (ap (λ (es : List E). items_with logs 0 es (points ++ length list ∷ [])) (append-nil list) ∙ all_point logs list points h.counts)
      (front_left logs start.ring (items_with logs 0 list points) (point 0 ∷ []) l.last h.ends l.image group.bytes.items group.ends.items (last_of m.past) s.ring h.holds bytes ends
      (lost.leaves t k (text_with start.ring (items_with logs 0 list points)) h.ends h.holds (r.resting k))))
    where
      r : IsRunning logs tells crashes start.ring l list taken durable points stable
      r = s.runs runs

      all : length (list ++ []) ≡ taken
      all = ap (λ (es : List E). length es) (append-nil list) ∙ (sym r.durable_all ∙ r.taken_all)

      h : HoldsText logs start.ring list points l.last l.image
      h = r.holds t

  -- the counts are as they were, whatever else is known
  pub lost_stands : (start : LogStart) (l m : LogData) (list other : List E) (taken more durable : ℕ) (points others : List ℕ) (stable : ℕ) (group : GroupText) (fault : Fault) → LogStandsFor logs tells crashes start l list taken durable points stable → l.halted ≡ None → IsGroupLost tells crashes group fault l m
      → (tells → crashes → IsLost logs start.ring m.past other more durable others stable) → LogStandsFor logs tells crashes start m other more durable others stable
  lost_stands start l m list other taken more durable points others stable group fault s runs lost leaves = record {
    ring = lost.ring ∙ s.ring;
    pages = lost.pages ∙ s.pages;
    few = s.few;
    faults = inr (rose_on start.faults l.faults m.faults s.few s.faults lost.rose);
    count = lost.durable ∙ s.count;
    stable = lost.points ∙ s.stable;
    runs = λ e. absurd (none_some fault (sym e ∙ lost.halts));
    super = λ t k page crash. let r = s.runs runs in s.super t k page (subst (λ (h : PageHistory). IsCrashPage h page) (lost.super k (r.resting k)) crash);
    lost = λ t k _ _. leaves t k;
    halts = λ f e. (sym (same fault f (sym lost.halts ∙ e)) ∙ lost.is, rose_on start.faults l.faults m.faults s.few s.faults lost.rose);
  }
    where
      same : (a b : Fault) → ◌≡◌ {A = Option Fault} (Some a) (Some b) → a ≡ b
      same a b e = cc

  -- a log that has halted stands for a longer list and for marked syncpoints, with its counts
  pub halted_stands_for : (start : LogStart) (l : LogData) (list other : List E) (taken durable : ℕ) (points others : List ℕ) (stable : ℕ) (fault : Fault) → l.halted ≡ Some fault → IsPrefix list other → IsMarked points others
      → LogStandsFor logs tells crashes start l list taken durable points stable → LogStandsFor logs tells crashes start l other taken durable others stable
  halted_stands_for start l list other taken durable points others stable fault halts longer further s = record {
    ring = s.ring;
    pages = s.pages;
    few = s.few;
    faults = s.faults;
    count = s.count;
    stable = s.stable;
    runs = λ e. absurd (none_some fault (sym e ∙ halts));
    super = s.super;
    lost = λ t k f e. more_lost start.ring l.past list other taken durable points others stable longer further (s.lost t k f e);
    halts = s.halts;
  }

  pub fresh : FreshStands logs tells crashes
  fresh start log ends ring pages faults few place none none_stable runs holds resting super = record {
    ring = ring;
    pages = pages;
    few = few;
    faults = inl faults;
    count = none;
    stable = none_stable;
    runs = λ _. record { taken_all = refl; durable_all = refl; unmarked = refl; stable_all = refl; place = omega (arith, place); holds = λ t. fresh_holds logs start.ring log.last ends log.image (holds t); resting = resting };
    super = super;
    lost = λ t k fault e. absurd (none_some fault (sym runs ∙ e));
    halts = λ fault e. absurd (none_some fault (sym runs ∙ e));
  }
