-- Redo of what a crash leaves of a sound core.
use Rattle.std.proofs.Common.{◌≡◌, ◌<◌, ◌≤◌, ◌+◌, ◌-◌, ◌*◌, ◌/◌, ◌%◌, ℕ, List, [], length, take, drop, get_or, sym, ap, ◌∙◌, subst, arith}
use Rattle.std.proofs.lemmas.List.{ext_get_or, get_or-map, length-map}
use Rattle.jfs_disk.specs.Image.{Image, page_of}
use Rattle.jfs_disk.specs.Crash.{PageHistory, no_page, IsCrashPage, IsCrashImage, content_of}
use Rattle.jfs_core.specs.Image.{History, image_after, IsMeta, AgreesOnMeta}
use Rattle.jfs_core.specs.Core.{Core, Block, block_of, no_block, low_of, core_image, newest_of}
use Rattle.jfs_core.specs.Sound.{IsBetween, Throughout, page_at, meta_at, IsSyncCount, every_cell, IsKept, HasKnownCells, IsSound, AlwaysRecovers, redone_image}
use Rattle.jfs_disk.proofs.Tearing.{length-torn}
use Rattle.jfs_core.proofs.Cells.{IsBetween-torn}
use Rattle.jfs_core.proofs.Blocks.{BeginsPast-less}
use Rattle.jfs_core.proofs.Bounds.{newest_told}
use Rattle.jfs_core.proofs.Bytes.{page_of-image_after, length-image_after, length-page_after, get_or-page_after, byte_all, byte_all-append, redo_byte, take_split, drop_split}

-- ---- bytes of images

byte_of_image : (entries : History) (image : Image) (p i : ℕ) → p < length image → i < length (page_of image p) → get_or (page_of (image_after entries image) p) i 0 ≡ byte_all (4096 * p + i) entries (get_or (page_of image p) i 0)
byte_of_image entries image p i h w =
    ap (λ (page : List ℕ). get_or page i 0) (page_of-image_after entries image p h) ∙ get_or-page_after p entries (page_of image p) i w

size_of_page : (entries : History) (image : Image) (p : ℕ) → p < length image → length (page_of (image_after entries image) p) ≡ length (page_of image p)
size_of_page entries image p h = ap (λ (page : List ℕ). length page) (page_of-image_after entries image p h) ∙ length-page_after p entries (page_of image p)

-- a byte that is as after k entries, from c up to n
redo_known : (entries : History) (mounted low : Image) (c k n p i : ℕ) → c ≤ k → k ≤ n → n ≤ length entries → p < length mounted → p < length low → i < length (page_of mounted p) → i < length (page_of low p) →
    get_or (page_of low p) i 0 ≡ get_or (page_of (image_after (take k entries) mounted) p) i 0 →
    get_or (page_of (image_after (drop c (take n entries)) low) p) i 0 ≡ get_or (page_of (image_after (take n entries) mounted) p) i 0
redo_known entries mounted low c k n p i ck kn within pm pl im il h =
    let place = 4096 * p + i in
    let first = get_or (page_of mounted p) i 0 in
    let front = take c entries in
    let mid = drop c (take k entries) in
    let last = drop k (take n entries) in
    let after_k : byte_all place (take k entries) first ≡ byte_all place mid (byte_all place front first) =
    ap (λ (xs : History). byte_all place xs first) (take_split c k entries ck) ∙ byte_all-append place front mid first in
    let left : get_or (page_of low p) i 0 ≡ byte_all place mid (byte_all place front first) = h ∙ byte_of_image (take k entries) mounted p i pm im ∙ after_k in
    let there = byte_all place mid (byte_all place front first) in
    byte_of_image (drop c (take n entries)) low p i pl il
    ∙ ap (λ (b : ℕ). byte_all place (drop c (take n entries)) b) left
    ∙ ap (λ (xs : History). byte_all place xs there) (drop_split c k n entries ck kn within)
    ∙ byte_all-append place mid last there
    ∙ redo_byte place front mid last first
    ∙ ap (λ (b : ℕ). byte_all place last b) (sym after_k)
    ∙ sym (ap (λ (xs : History). byte_all place xs first) (take_split k n entries kn) ∙ byte_all-append place (take k entries) last first)
    ∙ sym (byte_of_image (take n entries) mounted p i pm im)

-- ---- what a crash leaves

crash_page : (core : Core) (low : Image) → IsCrashImage (low_of core) low → (p : ℕ) → p < length core.blocks → IsCrashPage (block_of core p).pages (page_of low p)
crash_page core low crash p h =
    let e = get_or-map (λ (b : Block). b.pages) core.blocks p no_block no_page h in
    let P : PageHistory → Type 0 = λ x. IsCrashPage x (page_of low p) in
    subst P e (crash.each p (omega (arith, length-map core.blocks (λ (b : Block). b.pages))))

count_low : (core : Core) → IsKept core → (end c : ℕ) → end ≤ length core.syncpoints → IsSyncCount core end c → c ≤ newest_of core
count_low core kept end c h count =
    let last = kept.rising count.0 (length core.syncpoints - 1) (omega (arith, count.2)) (omega (arith, count.2)) in
    omega (arith, count.3, last)

pub known_cells : (core : Core) → IsKept core → HasKnownCells core
known_cells core kept c count low crash p h matters =
    let page = crash_page core low crash p h in
    let ok = kept.blocks p h in
    let passed = kept.passed p h in
    let early = count_low core kept (length core.syncpoints) c (omega arith) count in
    let told : c ≤ core.told = omega (arith, newest_told core kept.bounds) in
    let dirty = BeginsPast-less (newest_of core) c (block_of core p).dirty early passed.0 in
    let unsynced = BeginsPast-less (newest_of core) c (block_of core p).unsynced early passed.1 in
    let of = λ (j : ℕ) (l : j ≤ length (block_of core p).pages.writes). ok.pending c told matters dirty unsynced j l in
    let base : page.base ≤ length (block_of core p).pages.writes = omega (arith, page.older, page.there) in
    let P : List ℕ → Type 0 = IsBetween every_cell (page_at core p) c core.told in
    subst P (sym page.content)
    (IsBetween-torn every_cell (page_at core p) c core.told page.sectors (content_of (block_of core p).pages page.top) (content_of (block_of core p).pages page.base)
    (ok.sizes page.top page.there) page.within (of page.top page.there) (of page.base base))

page_size : (core : Core) → IsKept core → (low : Image) → IsCrashImage (low_of core) low → (p : ℕ) → p < length core.blocks → length (page_of low p) ≡ 4096
page_size core kept low crash p h =
    let page = crash_page core low crash p h in
    let ok = kept.blocks p h in
    ap (λ (c : List ℕ). length c) page.content
    ∙ length-torn page.sectors (content_of (block_of core p).pages page.top) (content_of (block_of core p).pages page.base)
    page.within (ok.sizes page.top page.there) (ok.sizes page.base (omega (arith, page.older, page.there)))

pub sound_from_kept : (core : Core) → IsKept core → IsSound core
sound_from_kept core kept = record { kept = kept; cells = known_cells core kept }

-- ---- the theorem

-- With lines alone a page that matters after n entries did so all along. Where pages come and go, an entry logs the whole of
-- one that it takes.
meta_throughout : (core : Core) (p c n : ℕ) → IsMeta (core_image core n) p → Throughout (meta_at core p) c core.told
meta_throughout core p c n matters k low high = tt

pub always_recovers : (core : Core) → IsSound core → AlwaysRecovers core
always_recovers core sound low c n crash log =
    let kept = sound.kept in
    let entries = core.history in
    let taken : n ≤ length entries = omega (arith, log.taken, kept.bounds.counts.taken_appended) in
    let count : IsSyncCount core (length core.syncpoints) c = (log.count.0, log.count.1, omega (arith, log.count.2, kept.bounds.points.taken_there), log.count.3) in
    let low_length : length low ≡ length core.blocks = crash.number ∙ length-map core.blocks (λ (b : Block). b.pages) in
    let mounted_length : length core.mounted ≡ length core.blocks = kept.bounds.number in
    let one = redone_image core low c n in
    let two = core_image core n in
    let one_length : length one ≡ length core.blocks = length-image_after (drop c (take n entries)) low ∙ low_length in
    let two_length : length two ≡ length core.blocks = length-image_after (take n entries) core.mounted ∙ mounted_length in
    record {
      number = one_length ∙ sym two_length;
      pages = λ p l matters.
          let h : p < length core.blocks = omega (arith, l, two_length) in
          let in_low : p < length low = omega (arith, low_length, h) in
          let in_mounted : p < length core.mounted = omega (arith, mounted_length, h) in
          let low_size = page_size core kept low crash p h in
          let mounted_size : length (page_of core.mounted p) ≡ 4096 = kept.sizes p h in
          let one_size : length (page_of one p) ≡ 4096 = size_of_page (drop c (take n entries)) low p in_low ∙ low_size in
          let two_size : length (page_of two p) ≡ 4096 = size_of_page (take n entries) core.mounted p in_mounted ∙ mounted_size in
          let known = sound.cells c count low crash p h (meta_throughout core p c n matters) in
          ext_get_or 0 (page_of one p) (page_of two p) (one_size ∙ sym two_size) (λ i w.
          let small : i < 4096 = omega (arith, w, one_size) in
          let cell = known.each (i / 16) (omega arith) tt in
          let place : 16 * (i / 16) + i % 16 ≡ i = omega arith in
          let same : get_or (page_of low p) i 0 ≡ get_or (page_at core p cell.0) i 0 =
          subst (λ (x : ℕ). get_or (page_of low p) x 0 ≡ get_or (page_at core p cell.0) x 0) place (cell.3 (i % 16) (omega arith)) in
          redo_known entries core.mounted low c cell.0 n p i cell.1 (omega (arith, cell.2, kept.bounds.counts.told_durable, log.durable)) taken in_mounted in_low (omega (arith, mounted_size)) (omega (arith, low_size)) same);
    }

-- with lines alone all pages matter
pub agreement_is_equality : (image wanted : Image) → AgreesOnMeta image wanted → image ≡ wanted
agreement_is_equality image wanted agrees = ext_get_or [] image wanted agrees.number (λ p l. agrees.pages p (omega (arith, agrees.number)) tt)
