-- The log side behind a SYNCPT, and where groups have taken all.
use Rattle.std.proofs.Common.{◌≡◌, ◌<◌, ℕ, suc, ◌+◌, ◌^◌, List, [], ◌∷◌, ◌++◌, length, Option, Some, None, refl, sym, ap, subst, ◌∙◌, arith, append-nil}
use Rattle.std.proofs.lemmas.List.{length-append}
use Rattle.jfs_disk.specs.Crash.{PageHistory, IsCrashPage}
use Rattle.jfs_disk.specs.declared.disk.Fault.{Fault}
use Rattle.jfs_logfmt.specs.declared.log_record.Record.TheVariants.{SyncPt}
use Rattle.jfs_logpages.specs.declared.group_text.GroupText.{GroupText}
use Rattle.jfs_logpages.specs.Records.{log_text}
use Rattle.jfs_records.specs.Records.{Noted}
use Rattle.jfs_turns.specs.Lists.{IsPrefix}
use Rattle.jfs_groups.specs.Points.{IsMarked}
use Rattle.jfs_groups.specs.Start.{LogStart, Grows}
use Rattle.jfs_groups.specs.Log.{LogData, IsRunning, LogStandsFor}
use Rattle.jfs_groups.specs.Written.{IsGroupWritten, IsGroupLost}
use Rattle.jfs_groups.proofs.Text.{pointed}
use Rattle.jfs_groups.proofs.Stands.{more_lost, point_lost, lost_stands}
use Rattle.jfs_shared.proofs.Points.{synced_more, marked_more}

none_some : (fault : Fault) → ◌≡◌ {A = Option Fault} None (Some fault) → ⊥
none_some fault e = absurd (cc)

none_left : {A : Type 0} (xs : List A) → length xs ≡ 0 → xs ≡ []
none_left [] e = refl
none_left (x ∷ xs) e = absurd (let k : ⊥ = omega (arith, e) in k)

-- a front that is as long is the whole list
pub whole_front : {A : Type 0} (xs ys : List A) → IsPrefix xs ys → length xs ≡ length ys → xs ≡ ys
whole_front {A} xs ys (more, e) same = sym (append-nil xs) ∙ ap (λ (rest : List A). xs ++ rest) (sym (none_left more (let k : length more ≡ 0 = omega (arith, ap (λ (l : List A). length l) e, length-append xs more, same) in k))) ∙ e

module _ {E : Type 0} (logs : E → Option (List Noted)) where
  module _ (tells crashes : Type 0) (start : LogStart) (l m : LogData) (list : List E) (taken durable : ℕ) (points : List ℕ) (stable : ℕ) (s : LogStandsFor logs tells crashes start l list taken durable points stable) (runs : l.halted ≡ None) where
    r : IsRunning logs tells crashes start.ring l list taken durable points stable
    r = s.runs runs

    -- a SYNCPT that is written, and counted: all entries are durable, and all syncpoints are stable
    pub pointed_stands : (group : GroupText) → length list < 2 ^ 64 → group.bytes.items ≡ log_text (SyncPt 0 ∷ []) → length group.bytes.items ≡ 36 → group.last ≡ length list → IsGroupWritten tells crashes group l m
        → LogStandsFor logs tells crashes start (record m { points = m.points + 1 }) list (length list) (length list) (points ++ length list ∷ []) (suc (length points))
    pointed_stands group few bytes size last w = record {
      ring = w.ring ∙ s.ring;
      pages = w.pages ∙ s.pages;
      few = s.few;
      faults = subst (λ (n : ℕ). Grows start.faults n) (sym w.faults) s.faults;
      count = w.durable ∙ last;
      stable = omega (arith, w.points, s.stable, r.stable_all);
      runs = λ _. record {
        taken_all = refl;
        durable_all = refl;
        unmarked = marked_more points (length list) few ∙ r.unmarked;
        stable_all = let k : suc (length points) ≡ length (points ++ length list ∷ []) = omega (arith, length-append points (length list ∷ [])) in k;
        place = omega (arith, w.place, r.place, size, synced_more points (length list) few);
        holds = λ t. pointed logs start.ring points list l.last m.last l.image m.image group.bytes.items bytes (r.holds t) (w.holds t);
        resting = λ k. w.resting k (r.resting k);
      };
      super = λ t k page crash. s.super t k page (subst (λ (h : PageHistory). IsCrashPage h page) (w.super k (r.resting k)) crash);
      lost = λ t k fault e. absurd (none_some fault (sym w.runs ∙ e));
      halts = λ fault e. absurd (none_some fault (sym w.runs ∙ e));
    }

    -- one that isn't: a mark may stand behind the syncpoints, and no more of them are stable
    pub lost_point : (group : GroupText) (fault : Fault) (more : List ℕ) → group.bytes.items ≡ log_text (SyncPt 0 ∷ []) → group.ends.items ≡ 36 ∷ [] → IsMarked (points ++ length list ∷ []) more → IsGroupLost tells crashes group fault l m → LogStandsFor logs tells crashes start m list taken durable more stable
    lost_point group fault more bytes ends further w = lost_stands logs tells crashes start l m list list taken taken durable points more stable group fault s runs w
        (λ t k. more_lost logs tells crashes start.ring m.past list list taken durable (points ++ length list ∷ []) more stable ([], append-nil list) further
        (point_lost logs tells crashes start l m list taken durable points stable group fault s runs bytes ends w t k))

    -- where groups have taken all entries of a list that goes on the log's, it is the log's
    pub all_taken : (whole : List E) → IsPrefix list whole → taken ≡ length whole → LogStandsFor logs tells crashes start l whole (length whole) (length whole) points stable
    all_taken whole front all = subst (λ (es : List E). LogStandsFor logs tells crashes start l es (length es) (length es) points stable)
        (whole_front list whole front (let k : length list ≡ length whole = omega (arith, r.taken_all, r.durable_all, all) in k)) (record {
          ring = s.ring;
          pages = s.pages;
          few = s.few;
          faults = s.faults;
          count = s.count ∙ r.durable_all;
          stable = s.stable;
          runs = λ e. let q = s.runs e in record { taken_all = refl; durable_all = refl; unmarked = q.unmarked; stable_all = q.stable_all; place = q.place; holds = q.holds; resting = q.resting };
          super = s.super;
          lost = λ t k fault e. absurd (none_some fault (sym runs ∙ e));
          halts = s.halts;
        })
