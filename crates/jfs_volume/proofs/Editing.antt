-- Pages that an entry changes, in memory and among the blocks of a half.
use Rattle.std.proofs.Common.{◌≡◌, ◌<◌, ◌≤◌, ◌⊎◌, ◌+◌, ◌-◌, ◌*◌, ◌||◌, ℕ, zero, suc, Bool, true, false, if◌then◌else◌, List, [], ◌∷◌, length, map, get_or, Option, Some, None, refl, sym, ap, ◌∙◌, inl, inr, arith}
use Rattle.std.specs.List.{AllByRecursion}
use Rattle.std.proofs.lemmas.Bool.{cases_lt, cases_Bool, cond-true, cond-false, and_parts, or_cases, ltb-true}
use Rattle.std.proofs.lemmas.List.{get_or_past, ext_get_or}
use Rattle.jfs_bits.specs.declared.rule.PageKind.{PageKind}
use Rattle.jfs_bits.specs.declared.rule.PageKind.TheVariants as kinds
use Rattle.jfs_bits.specs.Line.{line_size}
use Rattle.jfs_disk.specs.Image.{Image, page_of}
use Rattle.jfs_disk.specs.Crash.{PageHistory, DiskState}
use Rattle.jfs_ranges.specs.declared.edit.Edit.{Edit}
use Rattle.jfs_ranges.specs.declared.edit.Edit.TheVariants.{Lines, NoRedo, Alloc, Free}
use Rattle.jfs_ranges.specs.Apply.{apply_tx, touches_edit, touches_tx, place_of_line}
use Rattle.jfs_logfmt.specs.Kinds.{page_type, page_blocks}
use Rattle.jfs_pages.specs.declared.dirty.Dirty.{Dirty}
use Rattle.jfs_pages.specs.declared.kept.Kept.{Kept}
use Rattle.jfs_pages.specs.Dirty.{touched_by, last_of}
use Rattle.jfs_pages.specs.Kept.{shown, image_in}
use Rattle.jfs_halves.specs.crash_core.specs.Core.{Block, no_block}
use Rattle.jfs_halves.specs.crash_core.specs.Image.{pages_after}
use Rattle.jfs_halves.specs.crash_core.specs.Step.{dirtied, marked}
use Rattle.jfs_halves.specs.crash_core.proofs.Bounds.{length-marked}
use Rattle.jfs_halves.specs.crash_core.proofs.Bytes.{length-pages_after, page_of-pages_after}
use Rattle.jfs_records.specs.Records.{Noted, tx_of}
use Rattle.jfs_records.specs.Limits.{IsLoggable, CanLog, AreLines}
use Rattle.jfs_halves.specs.Half.{VolumeHalf, block_in}
use Rattle.jfs_halves.specs.Parts.{span_of}
use Rattle.jfs_volume.proofs.Stand.{image-at, length-image}

-- ---- blocks

abbrev pages_in : Block → PageHistory
pages_in block = block.pages

pub low-marked : (changed : ℕ → Bool) (n p : ℕ) (blocks : List Block) → map pages_in (marked changed n p blocks) ≡ map pages_in blocks
low-marked changed n p [] = refl
low-marked changed n p (block ∷ blocks) =
    let rest = low-marked changed n (suc p) blocks in
    ap (λ (pages : DiskState). (if changed p then dirtied n block else block).pages ∷ pages) rest
    ∙ ap (λ (page : PageHistory). page ∷ map pages_in blocks) (at (cases_Bool (changed p)))
  where
    at : (changed p ≡ true) ⊎ (changed p ≡ false) → (if changed p then dirtied n block else block).pages ≡ block.pages
    at (inl e) = ap pages_in (cond-true (changed p) (dirtied n block) block e)
    at (inr e) = ap pages_in (cond-false (changed p) (dirtied n block) block e)

get_or-marked : (changed : ℕ → Bool) (n q : ℕ) (blocks : List Block) (p : ℕ) → p < length blocks →
    get_or (marked changed n q blocks) p no_block ≡ (if changed (q + p) then dirtied n (get_or blocks p no_block) else get_or blocks p no_block)
get_or-marked changed n q [] p h = absurd (omega arith)
get_or-marked changed n q (block ∷ blocks) zero h = let e : q + 0 ≡ q = omega arith in rw e refl
get_or-marked changed n q (block ∷ blocks) (suc p) h =
    let e : q + suc p ≡ suc q + p = omega arith in
    rw e (get_or-marked changed n (suc q) blocks p (omega arith))

pub marked-at : (changed : ℕ → Bool) (n : ℕ) (half : VolumeHalf) (m : ℕ) → ((k : ℕ) → changed k ≡ true → k < length half.blocks) →
    get_or (marked changed n 0 half.blocks) m no_block ≡ (if changed m then dirtied n (block_in half m) else block_in half m)
marked-at changed n half m within = at (cases_lt m (length half.blocks)) (cases_Bool (changed m))
  where
    at : (m < length half.blocks) ⊎ (length half.blocks ≤ m) → (changed m ≡ true) ⊎ (changed m ≡ false) → get_or (marked changed n 0 half.blocks) m no_block ≡ (if changed m then dirtied n (block_in half m) else block_in half m)
    at (inl h) b = let place : 0 + m ≡ m = omega arith in get_or-marked changed n 0 half.blocks m h ∙ ap (λ (k : ℕ). if changed k then dirtied n (block_in half m) else block_in half m) place
    at (inr h) (inl e) = absurd (omega (arith, within m e, h))
    at (inr h) (inr e) = get_or_past (marked changed n 0 half.blocks) m no_block (omega (arith, h, length-marked changed n 0 half.blocks)) ∙ sym (cond-false (changed m) (dirtied n (block_in half m)) (block_in half m) e ∙ get_or_past half.blocks m no_block h)

pub marked-seen : (changed : ℕ → Bool) (n : ℕ) (blocks : List Block) (p q : ℕ) → (get_or (marked changed n p blocks) q no_block).pages.seen ≡ (get_or blocks q no_block).pages.seen
marked-seen changed n [] p q = refl
marked-seen changed n (block ∷ blocks) p zero = at (changed p)
  where
    at : (b : Bool) → (if b then dirtied n block else block).pages.seen ≡ block.pages.seen
    at true = refl
    at false = refl
marked-seen changed n (block ∷ blocks) p (suc q) = marked-seen changed n blocks (suc p) q

-- ---- dirty pages

pub span-touched : (changed : Bool) (p n : ℕ) (old : Option Dirty) (block : Block) → span_of old ≡ block.dirty →
    span_of (touched_by changed p n old) ≡ (if changed then dirtied n block else block).dirty
span-touched true p n None block e = rw (sym e) refl
span-touched true p n (Some dirty) block e = rw (sym e) refl
span-touched false p n old block e = e

-- the last entry of a page that an entry touched
pub last-touched : (changed : Bool) (p n most : ℕ) (old : Option Dirty) → last_of old ≤ most → most ≤ n → last_of (touched_by changed p n old) ≤ n
last-touched true p n most None h k = omega arith
last-touched true p n most (Some dirty) h k = omega arith
last-touched false p n most old h k = omega (arith, h, k)

pub or-none : (b : Bool) → (b || false) ≡ b
or-none true = refl
or-none false = refl

-- ---- pages

pub image-edited : (blocks : ℕ) (d e : Image) (k l : Kept) (tx : List Edit) → ((q : ℕ) → q < blocks → shown e l q ≡ apply_tx q tx (shown d k q)) → image_in blocks e l ≡ pages_after 0 tx (image_in blocks d k)
image-edited blocks d e k l tx same = ext_get_or [] (image_in blocks e l) (pages_after 0 tx (image_in blocks d k))
    (length-image blocks e l ∙ sym (length-pages_after 0 tx (image_in blocks d k) ∙ length-image blocks d k))
    (λ p h. let within : p < blocks = omega (arith, h, length-image blocks e l) in
    let inside : p < length (image_in blocks d k) = omega (arith, within, length-image blocks d k) in
    let place : 0 + p ≡ p = omega arith in
    image-at blocks e l p within ∙ same p within
    ∙ ap (λ (bytes : List ℕ). apply_tx p tx bytes) (sym (image-at blocks d k p within))
    ∙ sym (page_of-pages_after 0 tx (image_in blocks d k) p inside ∙ ap (λ (q : ℕ). apply_tx q tx (page_of (image_in blocks d k) p)) place))

-- ---- what can be logged lies within the volume

lines_within : (blocks : ℕ) (kind : PageKind) (new_page : Bool) (page first : ℕ) (bytes : List ℕ) (n : ℕ) → AreLines blocks kind new_page page first bytes → touches_edit n (Lines page kind first bytes) ≡ true → n < blocks
unfolding place_of_line
lines_within blocks kind new_page page first bytes n are t =
    let parts = and_parts _ _ t in
    let behind = ltb-true (4096 * n - (4096 * page + line_size kind * first)) (length bytes) parts.1 in
    by kind are.high are.within behind
  where
    by : (k : PageKind) → page + page_blocks (page_type k new_page) ≤ blocks → first * line_size k + length bytes ≤ page_blocks (page_type k new_page) * 4096 → 4096 * n - (4096 * page + line_size k * first) < length bytes → n < blocks
    by kinds.Inode high within h = omega (arith, high, within, h)
    by kinds.Xtree high within h = omega (arith, high, within, h)
    by kinds.Dtree high within h = omega (arith, high, within, h)
    by kinds.Index high within h = omega (arith, high, within, h)

edit_within : (blocks : ℕ) (new_page : Bool) (e : Edit) (n : ℕ) → CanLog blocks new_page e → touches_edit n e ≡ true → n < blocks
edit_within blocks new_page (Lines page kind first bytes) n can t = lines_within blocks kind new_page page first bytes n can t
edit_within blocks new_page (NoRedo page) n can t = absurd (cc)
edit_within blocks new_page (Alloc run) n can t = absurd (cc)
edit_within blocks new_page (Free run) n can t = absurd (cc)

pub tx_within : (blocks : ℕ) (noted : List Noted) (n : ℕ) → AllByRecursion (IsLoggable blocks) noted → touches_tx n (tx_of noted) ≡ true → n < blocks
tx_within blocks [] n all t = absurd (cc)
tx_within blocks (x ∷ xs) n all t = by (λ rest. tx_within blocks xs n all.1 rest) (or_cases (touches_edit n x.edit) (touches_tx n (tx_of xs)) t)
  where
    by : (touches_tx n (tx_of xs) ≡ true → n < blocks) → (touches_edit n x.edit ≡ true) ⊎ (touches_tx n (tx_of xs) ≡ true) → n < blocks
    by others (inl one) = edit_within blocks x.note.new_page x.edit n all.0.edit one
    by others (inr rest) = others rest
