-- Each allowed step keeps a sound core sound.
use Rattle.std.proofs.Common.{◌≡◌, ◌<◌, ◌≤◌, ◌⊎◌, ◌+◌, ◌-◌, ℕ, zero, suc, Bool, true, false, if◌then◌else◌, List, [], ◌∷◌, ◌++◌, length, take, get_or, Option, Some, None, refl, sym, ap, ◌∙◌, subst, inl, inr, arith}
use Rattle.std.proofs.lemmas.Bool.{cases_lt, cases_Bool, cond-true, cond-false}
use Rattle.std.proofs.lemmas.List.{take-append-le, take_all, length_push, get_or_append_left, get_or_push}
use Rattle.jfs_disk.specs.Image.{Image, page_of}
use Rattle.jfs_core.specs.declared.block.Span.{Span}
use Rattle.jfs_core.specs.declared.entry.Entry.{Entry}
use Rattle.jfs_core.specs.Image.{History, image_after, image_step, pages_changed, IsMeta}
use Rattle.jfs_core.specs.Core.{Core, Block, block_of, no_block, newest_of, core_image}
use Rattle.jfs_core.specs.Step.{BeginsPast, IsSynced, spanned, dirtied, marked, appended}
use Rattle.jfs_core.specs.Sound.{BlockOk, page_at, meta_at, every_cell, IsKept}
use Rattle.jfs_core.proofs.Blocks.{BlockOk-raised, BlockOk-grown, BlockOk-dirtied, Extends}
use Rattle.jfs_core.proofs.Bounds.{length-marked, bounds_take, bounds_group, bounds_told, bounds_sync_point, bounds_append, newest_told}
use Rattle.jfs_core.proofs.Bytes.{image_after-append, length-image_after, page_of-image_step, page_of-image_after, length-page_after}

-- ---- counts

pub kept_take : (core : Core) → IsKept core → IsKept (record core { taken = length core.history; points_taken = length core.syncpoints; grouped = true })
kept_take core kept = record {
  bounds = bounds_take core kept.bounds;
  rising = kept.rising;
  front = kept.front;
  closed = λ e. absurd (cc);
  sizes = kept.sizes;
  blocks = kept.blocks;
  passed = kept.passed;
}

pub kept_group : (core : Core) → IsKept core → IsKept (record core { durable = core.taken; points_stable = core.points_taken; grouped = false })
kept_group core kept = record {
  bounds = bounds_group core kept.bounds;
  rising = kept.rising;
  front = kept.front;
  closed = λ e. (refl, refl);
  sizes = kept.sizes;
  blocks = kept.blocks;
  passed = kept.passed;
}

pub kept_told : (core : Core) → IsKept core → IsKept (record core { told = core.durable })
kept_told core kept =
    let counts = kept.bounds.counts in
    record {
      bounds = bounds_told core kept.bounds;
      rising = kept.rising;
      front = kept.front;
      closed = kept.closed;
      sizes = kept.sizes;
      blocks = λ p h. BlockOk-raised (meta_at core p) every_cell (page_at core p) (length core.history) core.told core.durable (block_of core p) counts.told_durable (omega (arith, counts.durable_taken, counts.taken_appended)) (kept.blocks p h);
      passed = kept.passed;
    }

-- ---- a sync count

rising_push : (xs : List ℕ) (c : ℕ) → ((i j : ℕ) → i ≤ j → j < length xs → get_or xs i 0 ≤ get_or xs j 0) → get_or xs (length xs - 1) 0 ≤ c →
    (i j : ℕ) → i ≤ j → j < length (xs ++ c ∷ []) → get_or (xs ++ c ∷ []) i 0 ≤ get_or (xs ++ c ∷ []) j 0
rising_push xs c rising above i j h w = at (cases_lt j (length xs)) (cases_lt i (length xs))
  where
    at : (j < length xs) ⊎ (length xs ≤ j) → (i < length xs) ⊎ (length xs ≤ i) → get_or (xs ++ c ∷ []) i 0 ≤ get_or (xs ++ c ∷ []) j 0
    at (inl l) (inr g) = absurd (omega arith)
    at (inl l) (inl g) = omega (arith, get_or_append_left xs (c ∷ []) 0 i g, get_or_append_left xs (c ∷ []) 0 j l, rising i j h l)
    at (inr l) (inl g) = omega (arith, get_or_append_left xs (c ∷ []) 0 i g, get_or_push xs c 0 j (omega (arith, length_push xs c)), rising i (length xs - 1) (omega arith) (omega arith), above)
    at (inr l) (inr g) = omega (arith, get_or_push xs c 0 j (omega (arith, length_push xs c)), get_or_push xs c 0 i (omega (arith, length_push xs c)))

pub kept_sync_point : (core : Core) (c : ℕ) → c ≤ core.told → newest_of core ≤ c → ((p : ℕ) → p < length core.blocks → IsSynced c (block_of core p)) → IsKept core → IsKept (record core { syncpoints = core.syncpoints ++ c ∷ [] })
kept_sync_point core c told above synced kept =
    let points = core.syncpoints ++ c ∷ [] in
    let size : length points ≡ length core.syncpoints + 1 = length_push core.syncpoints c in
    let newest : get_or points (length points - 1) 0 ≡ c = get_or_push core.syncpoints c 0 (length points - 1) (omega (arith, size)) in
    let placed = kept.bounds.points in
    record {
      bounds = bounds_sync_point core c told kept.bounds;
      rising = rising_push core.syncpoints c kept.rising above;
      front = get_or_append_left core.syncpoints (c ∷ []) 0 0 (omega (arith, placed.mounted, placed.stable_taken, placed.taken_there)) ∙ kept.front;
      closed = kept.closed;
      sizes = kept.sizes;
      blocks = kept.blocks;
      passed = λ p h. subst (λ (n : ℕ). IsSynced n (block_of core p)) (sym newest) (synced p h);
    }

-- ---- an append

get_or-marked : (changed : ℕ → Bool) (n q : ℕ) (blocks : List Block) (p : ℕ) → p < length blocks →
    get_or (marked changed n q blocks) p no_block ≡ (if changed (q + p) then dirtied n (get_or blocks p no_block) else get_or blocks p no_block)
get_or-marked changed n q [] p h = absurd (omega arith)
get_or-marked changed n q (block ∷ blocks) zero h = let e : q + 0 ≡ q = omega arith in rw e refl
get_or-marked changed n q (block ∷ blocks) (suc p) h =
    let e : q + suc p ≡ suc q + p = omega arith in
    rw e (get_or-marked changed n (suc q) blocks p (omega arith))

-- the core whose history has one entry more
abbrev longer : Core → Entry → Core
longer core entry = record core { history = core.history ++ entry ∷ [] }

-- up to the old length, a longer history gives the same images
same_image : (core : Core) (entry : Entry) (k : ℕ) → k ≤ length core.history → core_image (longer core entry) k ≡ core_image core k
same_image core entry k h = ap (λ (xs : History). image_after xs core.mounted) (take-append-le k core.history (entry ∷ []) h)

-- after all of it the image is one step further
last_image : (core : Core) (entry : Entry) → core_image (longer core entry) (suc (length core.history)) ≡ image_step (core_image core (length core.history)) entry
last_image core entry =
    let history = core.history ++ entry ∷ [] in
    let all : take (suc (length core.history)) history ≡ history = take_all (suc (length core.history)) history (omega (arith, length_push core.history entry)) in
    let whole : take (length core.history) core.history ≡ core.history = take_all (length core.history) core.history (omega arith) in
    ap (λ (xs : History). image_after xs core.mounted) all
    ∙ image_after-append core.history (entry ∷ []) core.mounted
    ∙ ap (λ (xs : History). image_step (image_after xs core.mounted) entry) (sym whole)

-- a page that the new entry doesn't change stays
unchanged : (core : Core) (entry : Entry) (p : ℕ) → IsKept core → p < length core.blocks → pages_changed (core_image core (length core.history)) entry p ≡ false →
    page_at (longer core entry) p (suc (length core.history)) ≡ page_at (longer core entry) p (length core.history)
unchanged core entry p kept h e =
    let n = length core.history in
    let before = core_image core n in
    let in_mounted : p < length core.mounted = omega (arith, kept.bounds.number) in
    let there : p < length before = omega (arith, length-image_after (take n core.history) core.mounted, in_mounted) in
    let size : length (page_of before p) ≡ 4096 =
    ap (λ (page : List ℕ). length page) (page_of-image_after (take n core.history) core.mounted p in_mounted) ∙ length-page_after p (take n core.history) (page_of core.mounted p) ∙ kept.sizes p h in
    ap (λ (image : Image). page_of image p) (last_image core entry)
    ∙ page_of-image_step before entry p there size e
    ∙ sym (ap (λ (image : Image). page_of image p) (same_image core entry n (omega arith)))

-- Up to the old length the longer history has the same pages, and the same ones matter.
extended : (core : Core) (entry : Entry) (p : ℕ) → Extends (meta_at core p) (meta_at (longer core entry) p) (page_at core p) (page_at (longer core entry) p) (length core.history)
extended core entry p = record {
  same = λ k l. ap (λ (image : Image). page_of image p) (same_image core entry k l);
  there = λ k l matters. subst (λ (image : Image). IsMeta image p) (sym (same_image core entry k l)) matters;
  back = λ k l matters. subst (λ (image : Image). IsMeta image p) (same_image core entry k l) matters;
}

-- whether block p is marked, and what is known of it then
append_block : (core : Core) (entry : Entry) (p : ℕ) → IsKept core → p < length core.blocks →
    let n = length core.history in
    let block = if pages_changed (core_image core n) entry p then dirtied (suc n) (block_of core p) else block_of core p in
    BlockOk (meta_at (longer core entry) p) every_cell (page_at (longer core entry) p) (suc n) core.told block × IsSynced (newest_of core) block
append_block core entry p kept h = at (cases_Bool (pages_changed (core_image core (length core.history)) entry p))
  where
    n : ℕ
    n = length core.history

    changed : Bool
    changed = pages_changed (core_image core n) entry p

    told : core.told ≤ n
    told = let counts = kept.bounds.counts in omega (arith, counts.told_durable, counts.durable_taken, counts.taken_appended)

    P : Block → Type 0
    P block = BlockOk (meta_at (longer core entry) p) every_cell (page_at (longer core entry) p) (suc n) core.told block × IsSynced (newest_of core) block

    past : (span : Option Span) → BeginsPast (newest_of core) span → BeginsPast (newest_of core) (Some (spanned (suc n) span))
    past None q = omega (arith, newest_told core kept.bounds, told)
    past (Some span) q = q

    at : (changed ≡ true) ⊎ (changed ≡ false) → P (if changed then dirtied (suc n) (block_of core p) else block_of core p)
    at (inl e) = subst P (sym (cond-true changed (dirtied (suc n) (block_of core p)) (block_of core p) e)) (
      BlockOk-dirtied (meta_at core p) (meta_at (longer core entry) p) every_cell (page_at core p) (page_at (longer core entry) p) n core.told (block_of core p) told (extended core entry p) (kept.blocks p h),
      (past (block_of core p).dirty (kept.passed p h).0, (kept.passed p h).1),
    )
    -- with lines alone a page that an entry leaves matters after it only as it did before
    at (inr e) = subst P (sym (cond-false changed (dirtied (suc n) (block_of core p)) (block_of core p) e)) (
      BlockOk-grown (meta_at core p) (meta_at (longer core entry) p) every_cell (page_at core p) (page_at (longer core entry) p) n core.told (block_of core p) told (extended core entry p) (unchanged core entry p kept h e, λ _. tt) (kept.blocks p h),
      kept.passed p h,
    )

pub kept_append : (core : Core) (entry : Entry) → IsKept core → IsKept (appended entry core)
kept_append core entry kept =
    let n = length core.history in
    let changed = pages_changed (core_image core n) entry in
    let blocks = marked changed (suc n) 0 core.blocks in
    let size : length blocks ≡ length core.blocks = length-marked changed (suc n) 0 core.blocks in
    let entries : suc n ≡ length (core.history ++ entry ∷ []) = omega (arith, length_push core.history entry) in
    let here = λ (p : ℕ) (h : p < length blocks).
    let place : 0 + p ≡ p = omega arith in
    get_or-marked changed (suc n) 0 core.blocks p (omega (arith, size, h))
    ∙ ap (λ (q : ℕ). (if changed q then dirtied (suc n) (block_of core p) else block_of core p)) place in
    record {
      bounds = bounds_append core entry blocks size kept.bounds;
      rising = kept.rising;
      front = kept.front;
      closed = kept.closed;
      sizes = λ p h. kept.sizes p (omega (arith, size, h));
      blocks = λ p h.
          let after = longer core entry in
          subst (λ (count : ℕ). BlockOk (meta_at after p) every_cell (page_at after p) count core.told (get_or blocks p no_block)) entries
          (subst (λ (block : Block). BlockOk (meta_at after p) every_cell (page_at after p) (suc n) core.told block) (sym (here p h)) (append_block core entry p kept (omega (arith, size, h))).0);
      passed = λ p h. subst (λ (block : Block). IsSynced (newest_of core) block) (sym (here p h)) (append_block core entry p kept (omega (arith, size, h))).1;
    }
