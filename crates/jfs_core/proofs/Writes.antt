-- Writes of the low part keep a sound core sound.
use Rattle.std.proofs.Common.{◌≡◌, ◌<◌, ◌≤◌, ◌⊎◌, ℕ, List, length, take, get_or, set, map, Option, Some, None, IsSome, refl, sym, ap, ◌∙◌, subst, inl, inr, arith}
use Rattle.std.proofs.lemmas.Bool.{cases_eq}
use Rattle.std.proofs.lemmas.List.{length-set, length-map, get_or-set_same, get_or-set_other, get_or-map}
use Rattle.jfs_disk.specs.Image.{page_of}
use Rattle.jfs_core.specs.declared.block.Span.{Span}
use Rattle.jfs_core.specs.Core.{Core, Block, block_of, no_block, newest_of}
use Rattle.jfs_core.specs.Step.{EndsBy, BeginsPast, IsSynced, told_page, joined, sent_home, failed_home, synced}
use Rattle.jfs_core.specs.Sound.{IsOk, page_at, meta_at, every_cell, IsKept}
use Rattle.jfs_core.proofs.Bounds.{bounds_blocks}
use Rattle.jfs_core.proofs.Blocks.{BlockOk-synced, BlockOk-sent, BlockOk-failed}
use Rattle.jfs_core.proofs.Bytes.{page_of-image_after, length-page_after}

-- what is kept of one block
abbrev pub KeptBlock : Core → ℕ → Block → Type 0
KeptBlock core p block = IsOk core p block × IsSynced (newest_of core) block

-- one block changes
pub kept_set : (core : Core) (page : ℕ) (block : Block) → IsKept core → (page < length core.blocks → KeptBlock core page block) → IsKept (record core { blocks = set core.blocks page block })
kept_set core page block kept fresh =
    let size : length (set core.blocks page block) ≡ length core.blocks = length-set core.blocks page block in
    record {
      bounds = bounds_blocks core (set core.blocks page block) size kept.bounds;
      rising = kept.rising;
      front = kept.front;
      closed = kept.closed;
      sizes = λ p h. kept.sizes p (omega (arith, size, h));
      blocks = λ p h. (each p (omega (arith, size, h)) (cases_eq p page)).0;
      passed = λ p h. (each p (omega (arith, size, h)) (cases_eq p page)).1;
    }
  where
    each : (p : ℕ) → p < length core.blocks → (p ≡ page) ⊎ (p ≡ page → ⊥) → KeptBlock core p (get_or (set core.blocks page block) p no_block)
    each p h (inr other) = subst (λ (b : Block). KeptBlock core p b) (sym (get_or-set_other core.blocks page p block no_block other)) (kept.blocks p h, kept.passed p h)
    each p h (inl same) =
        let there : page < length core.blocks = subst (λ (q : ℕ). q < length core.blocks) same h in
        subst (λ (q : ℕ). KeptBlock core q (get_or (set core.blocks page block) q no_block)) (sym same)
        (subst (λ (b : Block). KeptBlock core page b) (sym (get_or-set_same core.blocks page block no_block there)) (fresh there))

told_size : (core : Core) (page : ℕ) → IsKept core → page < length core.blocks → length (told_page core page) ≡ 4096
told_size core page kept h =
    let there : page < length core.mounted = omega (arith, kept.bounds.number) in
    ap (λ (bytes : List ℕ). length bytes) (page_of-image_after (take core.told core.history) core.mounted page there)
    ∙ length-page_after page (take core.told core.history) (page_of core.mounted page) ∙ kept.sizes page h

joined-past : (m : ℕ) (old dirty : Option Span) → BeginsPast m old → BeginsPast m dirty → BeginsPast m (joined old dirty)
joined-past m None dirty p q = q
joined-past m (Some old) None p q = p
joined-past m (Some old) (Some dirty) p q = p

pub kept_home : (core : Core) (page : ℕ) → IsSome (block_of core page).dirty → EndsBy core.told (block_of core page).dirty → IsKept core →
    IsKept (record core { blocks = set core.blocks page (sent_home (told_page core page) (block_of core page)) })
kept_home core page dirty ends kept = kept_set core page (sent_home (told_page core page) (block_of core page)) kept (λ h. (
  BlockOk-sent (meta_at core page) every_cell (page_at core page) (length core.history) core.told (told_page core page) (block_of core page).pages (block_of core page).dirty (block_of core page).unsynced
      dirty ends refl (told_size core page kept h) (kept.blocks page h),
  (tt, joined-past (newest_of core) (block_of core page).unsynced (block_of core page).dirty (kept.passed page h).1 (kept.passed page h).0),
))

pub kept_failed : (core : Core) (page sectors : ℕ) (bytes : List ℕ) → sectors ≤ 8 → bytes ≡ told_page core page → IsKept core →
    IsKept (record core { blocks = set core.blocks page (failed_home bytes sectors (block_of core page)) })
kept_failed core page sectors bytes few same kept = kept_set core page (failed_home bytes sectors (block_of core page)) kept (λ h. (
  BlockOk-failed (meta_at core page) every_cell (page_at core page) (length core.history) core.told sectors bytes (block_of core page)
      few same (ap (λ (b : List ℕ). length b) same ∙ told_size core page kept h) (kept.blocks page h),
  kept.passed page h,
))

pub kept_low_sync : (core : Core) → IsKept core → IsKept (record core { blocks = map synced core.blocks })
kept_low_sync core kept =
    let size : length (map synced core.blocks) ≡ length core.blocks = length-map core.blocks synced in
    let here = λ (p : ℕ) (h : p < length (map synced core.blocks)). get_or-map synced core.blocks p no_block no_block (omega (arith, size, h)) in
    record {
      bounds = bounds_blocks core (map synced core.blocks) size kept.bounds;
      rising = kept.rising;
      front = kept.front;
      closed = kept.closed;
      sizes = λ p h. kept.sizes p (omega (arith, size, h));
      blocks = λ p h. subst (λ (b : Block). IsOk core p b) (sym (here p h))
          (BlockOk-synced (meta_at core p) every_cell (page_at core p) (length core.history) core.told (block_of core p) (kept.blocks p (omega (arith, size, h))));
      passed = λ p h. subst (λ (b : Block). IsSynced (newest_of core) b) (sym (here p h))
          ((kept.passed p (omega (arith, size, h))).0, tt);
    }
