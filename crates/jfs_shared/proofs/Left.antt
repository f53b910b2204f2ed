-- Whatever a crash leaves of a volume and its log, whether or not the log has halted or the history broke off, is redone to the volume's history.
use Rattle.std.proofs.Common.{◌≡◌, ◌⊎◌, ◌≤◌, ◌<◌, ◌+◌, ◌-◌, ◌^◌, ◌∷◌, [], ◌++◌, ℕ, suc, List, length, take, drop, Option, Some, None, refl, sym, ap, subst, ◌∙◌, inl, inr, arith, append_assoc}
use Rattle.std.proofs.lemmas.Bool.{cases_lt}
use Rattle.std.proofs.lemmas.List.{length-map, take-map, drop-map, take-take, get_or_past}
use Rattle.std.proofs.Math.Seq.{take-append_seam}
use Rattle.jfs_disk.specs.Crash.{PageHistory, DiskState, IsCrashImage, IsCrashPage, no_page, history_of, last_of, seen_of}
use Rattle.jfs_disk.specs.Image.{Image, page_of}
use Rattle.jfs_disk.specs.declared.disk.Disk.{Ghosts}
use Rattle.jfs_disk.specs.declared.disk.Fault.{Fault}
use Rattle.jfs_disk.proofs.Flow.{crash-resting}
use Rattle.jfs_disk.proofs.Tearing.{torn-same}
use Rattle.jfs_super.specs.Super.{super_of}
use Rattle.jfs_super.specs.declared.fields.Super.{Super}
use Rattle.jfs_super.proofs.Rules.{accepted_layout}
use Rattle.jfs_logpages.specs.Fresh.{super_page}
use Rattle.jfs_logpages.specs.Group.{Holds}
use Rattle.jfs_logpages.specs.declared.last.Last.{Last}
use Rattle.jfs_records.specs.Entries.{Item, point}
use Rattle.jfs_groups.specs.Log.{IsRunning, IsLost, data_of}
use Rattle.jfs_groups.specs.Text.{AreCounts, FrontOf, HoldsText, item_of, items_from, items_with, text_with}
use Rattle.jfs_groups.specs.declared.log.SharedLog.{SharedLog}
use Rattle.jfs_mount_disk.proofs.Left.{crash_low, crash_high}
use Rattle.jfs_kept_history.specs.legal.specs.served.specs.crash_core.specs.Core.{Block}
use Rattle.jfs_kept_history.specs.legal.specs.served.specs.shown.specs.meaning.specs.Image.{volume_of}
use Rattle.jfs_kept_history.specs.Keepable.{IsKeepableImage}
use Rattle.jfs_kept_history.specs.Crash.{IsRedoneToHistory}
use Rattle.jfs_kept_history.specs.Kept.{Lasting, noted_in}
use Rattle.jfs_kept_history.specs.Rested.{HasBothParts, HasRested, HasLost}
use Rattle.jfs_kept_history.proofs.Keepable.{uuid_size}
use Rattle.jfs_kept_history.proofs.Rested.{rested_law}
use Rattle.jfs_kept_history.proofs.Lost.{lost_law}
use Rattle.jfs_shared.specs.Base.{start_of, image_of}
use Rattle.jfs_shared.specs.Both.{Seen, AreOf}
use Rattle.jfs_shared.specs.Entries.{Recorded}
use Rattle.jfs_shared.specs.Left.{IsLeft}
use Rattle.jfs_shared.specs.Shared.{logs_of, timed_in, lasting, lasting_in, counts_in, IsKeptServed, standing, log_standing}
use Rattle.jfs_shared.specs.declared.shared.SharedVolume.{SharedVolume}
use Rattle.jfs_shared.proofs.Points.{all_counts, counts_of}
use Rattle.jfs_shared.proofs.Served.{history_law}
use Rattle.jfs_shared.proofs.Together.{front}

-- ---- the same text of entries as what keeps a volume has them

items_same : (n : ℕ) (list : List Recorded) → items_from logs_of n list ≡ items_from noted_in n (lasting_in list)
items_same n [] = refl
items_same n (e ∷ es) = ap (λ (is : List Item). item_of (suc n) e.noted ++ is) (items_same (suc n) es)

with_same : (n : ℕ) (list : List Recorded) (points : List ℕ) → items_with logs_of n list points ≡ items_with noted_in n (lasting_in list) points
with_same n list [] = items_same n list
with_same n list (p ∷ ps) =
    ap (λ (is : List Item). is ++ point 0 ∷ items_with logs_of p (drop (p - n) list) ps) (items_same n (take (p - n) list) ∙ ap (items_from noted_in n) (sym (take-map lasting (p - n) list)))
    ∙ ap (λ (is : List Item). items_from noted_in n (take (p - n) (lasting_in list)) ++ point 0 ∷ is)
    (with_same p (drop (p - n) list) ps ∙ ap (λ (l : List Lasting). items_with noted_in p l ps) (sym (drop-map lasting (p - n) list)))

text_same : (ring : ℕ) (list : List Recorded) (points : List ℕ) (last : Last) (image : Image) → HoldsText logs_of ring list points last image → HoldsText noted_in ring (lasting_in list) points last image
text_same ring list points last image h = record {
  counts = subst (λ (n : ℕ). AreCounts 0 n points) (sym (length-map list lasting)) h.counts;
  ends = h.ends;
  holds = subst (λ (is : List Item). Holds last (text_with ring is) h.ends image) (with_same 0 list points) h.holds;
}

-- where there is no page, a crash leaves none
no_page_left : IsCrashPage no_page []
no_page_left = record { base = 0; top = 0; sectors = 0; older = omega arith; there = omega arith; within = omega arith; content = sym (torn-same 0 []) }

page_left : (state : DiskState) (left : Image) (n : ℕ) → IsCrashImage state left → IsCrashPage (history_of state n) (page_of left n)
page_left state left n crash = by (cases_lt n (length state))
  where
    by : (n < length state) ⊎ (length state ≤ n) → IsCrashPage (history_of state n) (page_of left n)
    by (inl here) = crash.each n here
    by (inr past) = subst {A = PageHistory × List ℕ} (λ z. IsCrashPage z.0 z.1) (λ i. (sym (get_or_past state n no_page past) i, sym (get_or_past left n [] (omega (arith, past, crash.number))) i)) no_page_left

module _ {D : Type 0} (d : Ghosts D) (n : Seen) (x : SharedVolume D) (y : SharedLog D d) (k : AreOf (standing d) (log_standing d) n x y) (reads : d.tells_crashes → d.image y.side.part ≡ seen_of (last_of (d.past y.side.part)))
    (t : d.tells) (c : d.tells_crashes) (checked : IsKeepableImage (super_of (page_of (image_of n.base) 8)) (image_of n.base)) where
  abbrev image : Image
  image = image_of n.base

  abbrev s : Super
  s = super_of (page_of image 8)

  abbrev low : DiskState
  low = last_of x.volume.past

  abbrev high : DiskState
  high = last_of (d.past y.side.part)

  kept : IsKeptServed s image x.is_broken_off n.list n.points x.volume
  kept = k.volume.kept t c checked

  ring_is : (start_of n.base).log.ring ≡ s.logpxd.len - 2
  ring_is = sym k.volume.text.ring_is ∙ kept.ring

  low_long : length low ≡ s.logpxd.addr
  low_long =
      let stands = kept.since.kept.rests.stands in
      ap (λ (state : DiskState). length state) (stands.low refl refl) ∙ length-map kept.since.keeper.both.volume.blocks (λ (block : Block). block.pages) ∙ stands.number ∙ kept.blocks

  module _ (left : Image) (crash : IsCrashImage (low ++ high) left) where
    log_crash : IsCrashImage high (drop s.logpxd.addr left)
    log_crash = crash_high low high left crash s.logpxd.addr low_long

    log_super : page_of (drop s.logpxd.addr left) 1 ≡ super_page s.logpxd.len s.uuid
    log_super = k.log.super t c (page_of (drop s.logpxd.addr left) 1) (page_left high (drop s.logpxd.addr left) 1 log_crash)
        ∙ ap (λ (m : ℕ). super_page m s.uuid) (let shortest = (accepted_layout s (length image) checked.accepted).shortest in let e : (start_of n.base).log.ring + 2 ≡ s.logpxd.len = omega (arith, ring_is, shortest) in e)

    parts : HasBothParts s x.volume left
    parts = record { ring = kept.ring; blocks = kept.blocks; low = crash_low low high left crash s.logpxd.addr low_long; log_super = log_super }

    abbrev Redone : Type 0
    Redone = IsRedoneToHistory s (page_of image) kept.served.start (lasting_in n.list) n.durable left

    -- ---- the log runs

    module _ (runs : y.side.halted ≡ None) where
      r : IsRunning logs_of d.tells d.tells_crashes (start_of n.base).log.ring (data_of d y) n.log_list n.taken n.durable n.points n.stable
      r = k.log.runs runs

      log_is : d.image y.side.part ≡ drop s.logpxd.addr left
      log_is = reads c ∙ sym (crash-resting high (drop s.logpxd.addr left) (r.resting c) log_crash)

      taken_are : lasting_in n.log_list ≡ take x.volume.taken (lasting_in n.list)
      taken_are = ap lasting_in (sym (front d n x y k runs)) ∙ sym (take-map lasting n.taken n.list) ∙ ap (λ (m : ℕ). take m (lasting_in n.list)) (sym k.volume.taken_is)

      rested : HasRested s (lasting_in n.list) (counts_in n.points) x.volume left
      rested = record {
        parts = parts;
        last = y.side.last;
        last_ring = k.log.ring ∙ ring_is;
        log = subst {A = ℕ × List Lasting × List ℕ × Image} (λ z. HoldsText noted_in z.0 z.1 z.2 y.side.last z.3) (λ i. (ring_is i, taken_are i, sym (all_counts n.points r.unmarked) i, log_is i))
            (text_same (start_of n.base).log.ring n.log_list n.points y.side.last (d.image y.side.part) (r.holds t));
      }

      while_it_runs : Redone
      while_it_runs = subst (λ (m : ℕ). IsRedoneToHistory s (page_of image) kept.served.start (lasting_in n.list) m left) (k.volume.taken_is ∙ sym r.taken_all)
          (rested_law d.tells d.tells_crashes t c s (page_of image) kept.served.start (lasting_in n.list) (counts_in n.points) x.volume left (uuid_size s image checked) kept.since rested)

    -- ---- it has halted

    module _ (fault : Fault) (halts : y.side.halted ≡ Some fault) where
      l : IsLost logs_of (start_of n.base).log.ring (d.past y.side.part) n.log_list n.taken n.durable n.points n.stable
      l = k.log.lost t c fault halts

      -- the sync counts beside the marks
      counts_are : counts_in n.points ≡ l.counts
      counts_are = ap counts_in (sym l.counts_are.1) ∙ counts_of 0 (length l.entries) l.counts l.counts_are.0 below l.placed l.counts_are.2
        where
          below : length l.entries < 2 ^ 64
          below =
              let few = k.volume.few in
              let within = k.volume.taken_within in
              omega (arith, few, within, l.taken_are)

      -- the entries that groups have taken
      whole_list : l.entries ++ (l.entries_are.0 ++ k.front.0) ≡ n.list
      whole_list = sym (append_assoc l.entries l.entries_are.0 k.front.0) ∙ ap (λ (es : List Recorded). es ++ k.front.0) l.entries_are.1 ∙ k.front.1

      taken_is : x.volume.taken ≡ length l.entries
      taken_is = k.volume.taken_is ∙ l.taken_are

      entries_are : lasting_in l.entries ≡ take x.volume.taken (lasting_in n.list)
      entries_are = sym (ap (λ (m : ℕ). take m (lasting_in n.list)) taken_is ∙ take-map lasting (length l.entries) n.list
          ∙ ap (λ (es : List Recorded). lasting_in (take (length l.entries) es)) (sym whole_list) ∙ ap lasting_in (take-append_seam l.entries (l.entries_are.0 ++ k.front.0)))

      within : n.durable ≤ x.volume.taken
      within = omega (arith, l.durable_within, taken_is)

      front_are : lasting_in (take n.durable l.entries) ≡ take n.durable (lasting_in n.list)
      front_are = sym (take-map lasting n.durable l.entries) ∙ ap (take n.durable) entries_are ∙ take-take n.durable x.volume.taken (lasting_in n.list) within

      abbrev stable_items : List Item
      stable_items = items_with noted_in 0 (take n.durable (lasting_in n.list)) (take n.stable (counts_in n.points))

      stable_are : items_with logs_of 0 (take n.durable l.entries) (take n.stable l.counts) ≡ stable_items
      stable_are = with_same 0 (take n.durable l.entries) (take n.stable l.counts) ∙ ap (λ (es : List Lasting). items_with noted_in 0 es (take n.stable l.counts)) front_are
          ∙ ap (λ (ps : List ℕ). items_with noted_in 0 (take n.durable (lasting_in n.list)) (take n.stable ps)) (sym counts_are)

      all_are : items_with noted_in 0 (take x.volume.taken (lasting_in n.list)) (counts_in n.points) ≡ stable_items ++ l.group
      all_are = ap (λ (ps : List ℕ). items_with noted_in 0 (take x.volume.taken (lasting_in n.list)) ps) counts_are
          ∙ ap (λ (es : List Lasting). items_with noted_in 0 es l.counts) (sym entries_are)
          ∙ sym (with_same 0 l.entries l.counts)
          ∙ l.all
          ∙ ap (λ (is : List Item). is ++ l.group) stable_are

      lost : HasLost s (lasting_in n.list) (counts_in n.points) x.volume n.durable n.stable left
      lost = record {
        parts = parts;
        told = omega (arith, k.told_within, k.volume.told_is);
        within = within;
        few = omega (arith, l.stable_within, ap (λ (ps : List ℕ). length ps) counts_are);
        placed = subst (λ (ps : List ℕ). AreCounts 0 n.durable (take n.stable ps)) (sym counts_are) l.stable_behind;
        rest = rest l.rest;
        group = l.group;
        all = all_are;
        log = subst {A = ℕ × List Item} (λ z. FrontOf z.0 z.1 l.group (drop s.logpxd.addr left)) (λ i. (ring_is i, stable_are i)) (l.leaves (drop s.logpxd.addr left) log_crash);
      }
        where
          rest : (l.counts ≡ take n.stable l.counts) ⊎ ((n.durable ≡ length l.entries) × (l.counts ≡ take n.stable l.counts ++ length l.entries ∷ []))
              → (counts_in n.points ≡ take n.stable (counts_in n.points)) ⊎ ((n.durable ≡ x.volume.taken) × (counts_in n.points ≡ take n.stable (counts_in n.points) ++ x.volume.taken ∷ []))
          rest (inl all) = inl (subst (λ (ps : List ℕ). ps ≡ take n.stable ps) (sym counts_are) all)
          rest (inr (every, all)) = inr (every ∙ sym taken_is, subst {A = List ℕ × ℕ} (λ z. z.0 ≡ take n.stable z.0 ++ z.1 ∷ []) (λ i. (sym counts_are i, sym taken_is i)) all)

      once_it_halted : Redone
      once_it_halted = lost_law d.tells d.tells_crashes t c s (page_of image) kept.served.start (lasting_in n.list) (counts_in n.points) x.volume n.durable n.stable left (uuid_size s image checked) kept.since lost

    redone : Redone
    redone = by y.side.halted refl
      where
        by : (halted : Option Fault) → y.side.halted ≡ halted → Redone
        by None runs = while_it_runs runs
        by (Some fault) halts = once_it_halted fault halts

  pub left_is : IsLeft s image n.list n.durable (low ++ high)
  left_is = record { start = kept.served.start; holds = kept.served.holds; runs = kept.served.runs; legal = history_law x.is_broken_off (volume_of s (page_of image)).area s.logpxd.len kept.served.start (timed_in n.list) x.volume kept.served.goes_on; redone = redone }
