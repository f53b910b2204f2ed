-- The other parts of a sound core, as they are usually said.
use Rattle.std.proofs.Common.{◌≡◌, ◌<◌, ◌≤◌, ◌⊎◌, ◌+◌, ◌-◌, ◌*◌, ◌/◌, ◌%◌, ℕ, zero, suc, Bool, true, false, List, length, Option, Some, None, IsSome, refl, sym, ap, ◌∙◌, subst, inl, inr, arith}
use Rattle.std.proofs.lemmas.Bool.{cases_lt, cases_Bool}
use Rattle.std.proofs.lemmas.List.{take-append-drop, ext_get_or}
use Rattle.jfs_disk.specs.Crash.{content_of, torn}
use Rattle.jfs_kinds.specs.Owner.{Owner}
use Rattle.jfs_recovery.specs.Face.{Face, IsFace, Pages, byte}
use Rattle.jfs_recovery.specs.Core.{Core, count, image, newest, matters_at, IsBusy}
use Rattle.jfs_recovery.specs.Sound.{IsSound, IsLeft, ComesBetween, MayCount}
use Rattle.jfs_recovery.proofs.Redo.{known_cells, size_left}

-- a block without an owner now, which had one since what is acknowledged, is busy
pub is_busy : (own : ℕ → Option Owner) (told n : ℕ) → own n ≡ None → (k : ℕ) → told ≤ k → k ≤ n → IsSome (own k) → IsBusy own told n
is_busy own told zero none k low high some =
    let e : k ≡ 0 = omega arith in
    absurd (empty (own k) (ap own e ∙ none) some)
  where
    empty : (o : Option Owner) → o ≡ None → IsSome o → ⊥
    empty None e s = cc
    empty (Some a) e s = cc
is_busy own told (suc n) none k low high some = at (cases_lt n k) (λ l q. is_busy own told n q k low l some)
  where
    empty : (o : Option Owner) → o ≡ None → IsSome o → ⊥
    empty None e s = cc
    empty (Some a) e s = cc

    here : k ≤ n → (k ≤ n → own n ≡ None → IsBusy own told n) → (o : Option Owner) → own n ≡ o → IsBusy own told (suc n)
    here l before None e =
        let b = before l e in
        record { freed = b.freed; since = b.since; before = omega (arith, b.before); owned = b.owned; gone = b.gone }
    here l before (Some a) e = record { freed = n; since = omega arith; before = omega arith; owned = subst (λ (o : Option Owner). IsSome o) (sym e) refl; gone = none }

    at : (n < k) ⊎ (k ≤ n) → (k ≤ n → own n ≡ None → IsBusy own told n) → IsBusy own told (suc n)
    at (inl l) before = let e : k ≡ suc n = omega arith in absurd (empty (own k) (ap own e ∙ none) some)
    at (inr l) before = here l before (own n) refl

-- a page that matters and didn't came between
pub comes : (m : ℕ → Bool) (from k : ℕ) → from ≤ k → m from ≡ false → m k ≡ true → ComesBetween m from k
comes m from zero l none some = let e : from ≡ 0 = omega arith in absurd (let x : true ≡ false = sym some ∙ ap m (sym e) ∙ none in cc)
comes m from (suc k) l none some = at (cases_lt k from) (cases_Bool (m k)) (λ q here. comes m from k q none here)
  where
    at : (k < from) ⊎ (from ≤ k) → (m k ≡ true) ⊎ (m k ≡ false) → (from ≤ k → m k ≡ true → ComesBetween m from k) → ComesBetween m from (suc k)
    at (inl q) x before = let e : from ≡ suc k = omega arith in absurd (let y : true ≡ false = sym some ∙ ap m (sym e) ∙ none in cc)
    at (inr q) (inr gone) before = record { entry = k; after = q; before = omega arith; none = gone; some = some }
    at (inr q) (inl there) before =
        let b = before q there in
        record { entry = b.entry; after = b.after; before = omega (arith, b.before); none = b.none; some = b.some }

-- Where the newest write of a block is of data, then in each image since what is acknowledged it doesn't matter, or an entry after
-- that write logged it whole.
pub data_part : (f : Face) (core : Core) → IsSound f core → (p h k : ℕ) → (core.slots p).data_at ≡ Some h → core.told ≤ k → k ≤ count core →
    (matters_at f core p k ≡ false) ⊎ ComesBetween (matters_at f core p) h k
data_part f core kept p h k e low high = at (cases_lt k h) (cases_Bool (matters_at f core p k))
  where
    known : (h ≤ count core) × (matters_at f core p h ≡ false) × ((j : ℕ) → core.told ≤ j → j ≤ h → matters_at f core p j ≡ false)
    known = (kept.slots p).written h e

    at : (k < h) ⊎ (h ≤ k) → (matters_at f core p k ≡ true) ⊎ (matters_at f core p k ≡ false) → (matters_at f core p k ≡ false) ⊎ ComesBetween (matters_at f core p) h k
    at x (inr gone) = inl gone
    at (inl l) (inl some) = inl (known.2 k low (omega arith))
    at (inr l) (inl some) = inr (comes (matters_at f core p) h k l known.1 some)

-- ---- bytes that are kept

torn_same : (s : ℕ) (a : List ℕ) → torn s a a ≡ a
unfolding torn
torn_same s a = take-append-drop (512 * s) a

-- a block all of whose contents are the same bytes has these after each crash
pub kept_bytes : (f : Face) (core : Core) → IsSound f core → (low : Pages) → IsLeft core low → (p : ℕ) (bytes : List ℕ) → (core.slots p).kept ≡ Some bytes → low p ≡ bytes
kept_bytes f core kept low left p bytes e =
    let page = left p in
    let same = ((kept.slots p).kept bytes e).1 in
    page.content
    ∙ ap (λ (x : List ℕ). torn page.sectors x (content_of (core.slots p).block.pages page.base)) (same page.top page.there)
    ∙ ap (λ (x : List ℕ). torn page.sectors bytes x) (same page.base (omega (arith, page.older, page.there)))
    ∙ torn_same page.sectors bytes

-- ---- fixed pages

pub fixed_image : (f : Face) (core : Core) → IsSound f core → (p : ℕ) → f.is_map p ≡ false → f.is_fixed p ≡ true → (k : ℕ) → k ≤ count core → image core k p ≡ core.mounted p
fixed_image f core kept p page fixed zero h = refl
fixed_image f core kept p page fixed (suc k) h = (kept.logged k p (omega arith) page).fixed fixed ∙ fixed_image f core kept p page fixed k (omega arith)

-- each low image has the superblock that was mounted
pub fixed_low : (f : Face) → IsFace f → (core : Core) → IsSound f core → (low : Pages) → IsLeft core low → (p : ℕ) → f.is_map p ≡ false → f.is_fixed p ≡ true → low p ≡ core.mounted p
fixed_low f laws core kept low left p page fixed =
    let points = kept.points in
    let early = points.acknowledged (length core.syncpoints - 1) (omega (arith, points.mounted, points.stable_taken, points.taken_there)) in
    let known = known_cells f core kept low left (newest core) (omega arith) early p (λ k a b. laws.fixed (image core k) p fixed) in
    let size = size_left f core kept low left p in
    let counts = kept.counts in
    ext_get_or 0 (low p) (core.mounted p) (size ∙ sym (kept.sizes p)) (λ i w.
    let cell = known.each (i / 16) (omega (arith, w, size)) (inl page) in
    let place : 16 * (i / 16) + i % 16 ≡ i = omega arith in
    subst (λ (x : ℕ). byte (low p) x ≡ byte (image core cell.0 p) x) place (cell.3 (i % 16) (omega arith))
    ∙ ap (λ (a : List ℕ). byte a i) (fixed_image f core kept p page fixed cell.0 (omega (arith, cell.2, counts.told_durable, counts.durable_taken, counts.taken_appended))))

-- ---- any counts

-- what is known of blocks speaks of no count but that of acknowledged entries
pub any_counts : (f : Face) (core : Core) → IsSound f core → (durable taken stable points : ℕ) (grouped : Bool) → MayCount core durable taken stable points →
    IsSound f (record core { durable = durable; taken = taken; grouped = grouped; points_stable = stable; points_taken = points })
any_counts f core kept durable taken stable points grouped may = record {
  counts = record { told_durable = may.told_durable; durable_taken = may.durable_taken; taken_appended = may.taken_there };
  points = record { mounted = may.some; stable_taken = may.stable_taken; taken_there = may.points_there; acknowledged = kept.points.acknowledged };
  rising = kept.rising;
  sizes = kept.sizes;
  canonical = kept.canonical;
  follows = kept.follows;
  logged = kept.logged;
  owners = kept.owners;
  slots = kept.slots;
  passed = kept.passed;
}
