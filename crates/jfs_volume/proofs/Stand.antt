-- What the changes of a half do to its low part and to the parts that stand for it.
use Rattle.std.proofs.Common.{◌≡◌, ◌<◌, ◌≤◌, ◌⊎◌, ◌==◌, ℕ, Bool, true, false, if◌then◌else◌, List, [], ◌∷◌, ◌++◌, length, map, set, get_or, Option, None, refl, sym, ap, ◌∙◌, inl, inr, arith}
use Rattle.std.proofs.lemmas.Bool.{cases_lt, cases_eq, eq-eqb, ne_eqb}
use Rattle.std.proofs.lemmas.List.{map-set, get_or-map, get_or_past, get_or-set_same, get_or-set_other, length-map, length-set, ext_get_or, append-nil}
use Rattle.std.proofs.lemmas.List.FromFn.{get_or-map-range_with_len, length-map-range_with_len}
use Rattle.jfs_disk.specs.Image.{Image, page_of}
use Rattle.jfs_disk.specs.Crash.{PageHistory, DiskState, history_of, no_page, written, failed, settled, page_written, page_failed}
use Rattle.jfs_disk.specs.declared.disk.Fault.{Fault}
use Rattle.jfs_pages.specs.declared.kept.Kept.{Kept}
use Rattle.jfs_pages.specs.declared.dirty.Dirty.{Dirty}
use Rattle.jfs_pages.specs.Kept.{shown, image_in}
use Rattle.jfs_bmap.specs.States.{Blocks, BlockState, blocks_settled}
use Rattle.jfs_halves.specs.crash_core.specs.Core.{Block, no_block}
use Rattle.jfs_halves.specs.crash_core.specs.Step.{sent_home, failed_home, synced}
use Rattle.jfs_halves.specs.Half.{VolumeHalf, block_in, page_in, low_in, page_home, page_torn}
use Rattle.jfs_halves.specs.Change.{Change, SameStates, Fits, changed, states_of}
use Rattle.jfs_halves.specs.Parts.{Parts, StandsFor, span_of}
use Rattle.jfs_halves.specs.Moves.{Moves}

-- ---- no change, and one

pub none : (seen asked : Bool) (old new : Parts) (half : VolumeHalf) → StandsFor seen asked new half → (seen ≡ true → asked ≡ true → new.past ≡ old.past) → Moves seen asked old new half []
none seen asked old new half stands same = record { fit = tt; stands = stands; past = λ t k. same t k ∙ sym (append-nil old.past) }

pub one : (seen asked : Bool) (old new : Parts) (half : VolumeHalf) (c : Change) → Fits half c → StandsFor seen asked new (changed half c) → (seen ≡ true → asked ≡ true → new.past ≡ old.past ++ states_of half c)
    → Moves seen asked old new half (c ∷ [])
one seen asked old new half c fits stands past = record { fit = (fits, tt); stands = stands; past = λ t k. past t k ∙ ap (λ (states : List DiskState). old.past ++ states) (sym (append-nil (states_of half c))) }

-- ---- the low part

abbrev pages_in : Block → PageHistory
pages_in block = block.pages

pub history_of-low : (half : VolumeHalf) (n : ℕ) → history_of (low_in half) n ≡ (block_in half n).pages
history_of-low half n = at (cases_lt n (length half.blocks))
  where
    at : (n < length half.blocks) ⊎ (length half.blocks ≤ n) → history_of (low_in half) n ≡ (block_in half n).pages
    at (inl h) = get_or-map pages_in half.blocks n no_block no_page h
    at (inr h) = get_or_past (low_in half) n no_page (omega (arith, length-map half.blocks pages_in)) ∙ sym (ap pages_in (get_or_past half.blocks n no_block h))

pub low-home : (half : VolumeHalf) (n : ℕ) → low_in (page_home n half) ≡ written n (page_in half n) (low_in half)
unfolding written
low-home half n =
    let e = history_of-low half n in
    map-set pages_in half.blocks n (sent_home (page_in half n) (block_in half n))
    ∙ ap (λ (history : PageHistory). set (low_in half) n (page_written (page_in half n) history)) (sym e)

pub low-torn : (half : VolumeHalf) (n sectors : ℕ) (fault : Fault) → low_in (page_torn n sectors fault half) ≡ failed n (page_in half n) sectors (low_in half)
unfolding failed
low-torn half n sectors fault =
    let e = history_of-low half n in
    map-set pages_in half.blocks n (failed_home (page_in half n) sectors (block_in half n))
    ∙ ap (λ (history : PageHistory). set (low_in half) n (page_failed (page_in half n) sectors history)) (sym e)

pub low-synced : (blocks : List Block) → map pages_in (map synced blocks) ≡ settled (map pages_in blocks)
unfolding settled
low-synced [] = refl
low-synced (block ∷ blocks) = let rest = low-synced blocks in ap (λ (pages : DiskState). (synced block).pages ∷ pages) rest

-- ---- one block changes

pub block-set : (blocks : List Block) (n q : ℕ) (block : Block) → n < length blocks → get_or (set blocks n block) q no_block ≡ (if n == q then block else get_or blocks q no_block)
block-set blocks n q block h = at (cases_eq n q)
  where
    at : (n ≡ q) ⊎ ((n ≡ q) → ⊥) → get_or (set blocks n block) q no_block ≡ (if n == q then block else get_or blocks q no_block)
    at (inl e) = rw (eq-eqb n q e) (rw (sym e) (get_or-set_same blocks n block no_block h))
    at (inr d) = rw (ne_eqb n q d) (get_or-set_other blocks n q block no_block (λ e. d (sym e)))

pub span-if : (b : Bool) (d : Option Dirty) (block other : Block) → block.dirty ≡ None → span_of d ≡ other.dirty → span_of (if b then None else d) ≡ (if b then block else other).dirty
span-if true d block other none e = sym none
span-if false d block other none e = e

pub span-same : (b : Bool) (d : Option Dirty) (block other : Block) → (b ≡ true → block.dirty ≡ other.dirty) → span_of d ≡ other.dirty → span_of d ≡ (if b then block else other).dirty
span-same true d block other same e = e ∙ sym (same refl)
span-same false d block other same e = e

-- ---- pages

pub image-same : (blocks : ℕ) (d e : Image) (k l : Kept) → ((q : ℕ) → shown e l q ≡ shown d k q) → image_in blocks e l ≡ image_in blocks d k
image-same blocks d e k l same = ext_get_or [] (image_in blocks e l) (image_in blocks d k)
    (length-map-range_with_len (shown e l) 0 blocks ∙ sym (length-map-range_with_len (shown d k) 0 blocks))
    (λ p h. let within : p < blocks = omega (arith, h, length-map-range_with_len (shown e l) 0 blocks) in
    get_or-map-range_with_len (shown e l) 0 blocks p p [] within (omega arith) ∙ same p ∙ sym (get_or-map-range_with_len (shown d k) 0 blocks p p [] within (omega arith)))

pub image-at : (blocks : ℕ) (d : Image) (k : Kept) (p : ℕ) → p < blocks → page_of (image_in blocks d k) p ≡ shown d k p
image-at blocks d k p h = get_or-map-range_with_len (shown d k) 0 blocks p p [] h (omega arith)

pub length-image : (blocks : ℕ) (d : Image) (k : Kept) → length (image_in blocks d k) ≡ blocks
length-image blocks d k = length-map-range_with_len (shown d k) 0 blocks

-- ---- maps

pub same_settled : (n : ℕ) (a b : Blocks) → SameStates a b → SameStates (blocks_settled n a) (blocks_settled n b)
same_settled n a b same = record { states = ap (λ (states : List BlockState). (blocks_settled n (record a { states = states })).states) same.states; agsize = same.agsize }

-- a page shows what the disk has, and the others what they showed
pub image-dropped : (blocks : ℕ) (d e : Image) (k l : Kept) (n : ℕ) → n < blocks → ((q : ℕ) → shown e l q ≡ (if n == q then page_of d n else shown d k q)) → image_in blocks e l ≡ set (image_in blocks d k) n (page_of d n)
image-dropped blocks d e k l n h same = ext_get_or [] (image_in blocks e l) (set (image_in blocks d k) n (page_of d n))
    (length-image blocks e l ∙ sym (length-set (image_in blocks d k) n (page_of d n) ∙ length-image blocks d k))
    (λ p i. let within : p < blocks = omega (arith, i, length-image blocks e l) in image-at blocks e l p within ∙ same p ∙ at p within (cases_eq n p))
  where
    at : (p : ℕ) → p < blocks → (n ≡ p) ⊎ ((n ≡ p) → ⊥) → (if n == p then page_of d n else shown d k p) ≡ page_of (set (image_in blocks d k) n (page_of d n)) p
    at p within (inl f) = rw (eq-eqb n p f) (rw (sym f) (sym (get_or-set_same (image_in blocks d k) n (page_of d n) [] (omega (arith, h, length-image blocks d k)))))
    at p within (inr f) = rw (ne_eqb n p f) (sym (get_or-set_other (image_in blocks d k) n p (page_of d n) [] (λ x. f (sym x)) ∙ image-at blocks d k p within))
