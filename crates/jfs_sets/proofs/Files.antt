-- The bits of a map's file, as the volume has them.
use Rattle.std.specs.Global.{Vec}
use Rattle.std.proofs.Common.{Result, Ok, Err, IfOk, ◌≡◌, ◌<◌, ◌≤◌, ◌+◌, ◌*◌, ◌/◌, ◌%◌, ℕ, zero, suc, Bool, true, ◌&&◌, inl, inr, List, [], ◌∷◌, length, take, drop, replicate, Option, Some, None, refl, sym, ap, ◌∙◌, arith}
use Rattle.std.specs.Prelude.{get_or, slice_index, is_some, unwrap_or}
use Rattle.std.specs.Option.{option_map}
use Rattle.std.proofs.lemmas.Bool.{cases_lt, lt-ltb}
use Rattle.std.proofs.lemmas.List.{get_or-replicate, get_or_past, length-take, length-drop, length-replicate}
use Rattle.byteorder.specs.Endian.{little_from}
use Rattle.jfs_bits.specs.Field.{field_of, range_of}
use Rattle.jfs_bits.specs.Bits.{is_taken, is_taken_in}
use Rattle.jfs_bits.specs.declared.extent.Xad.{Xad}
use Rattle.jfs_mount.specs.objects.specs.Readers.{Readers}
use Rattle.jfs_mount.specs.objects.specs.Contents.{block_of, bytes_at}
use Rattle.jfs_mount.specs.objects.specs.Image.{file_extents, file_page, iag_page, is_block_used, is_inode_used, extents_on}
use Rattle.jfs_mount.specs.objects.specs.Volume.{home}
use Rattle.jfs_disk.specs.Image.{Image, page_of}
use Rattle.jfs_ranges.specs.declared.view.ViewError.{ViewError}
use Rattle.jfs_mount.specs.Subject.{subject_of}
use Rattle.jfs_mount.specs.declared.maps.Maps.{Maps}
use Rattle.jfs_sets.specs.Sets.{AreUsedBlocks, AreUsedInodes}
use Rattle.jfs_sets.specs.Parts.{or_zeros, part_of, parts_from, AreParts}
use Rattle.jfs_sets.proofs.Bits.{taken-parts}

-- bytes that are all zero make a zero
zero-from : (bytes : List ℕ) → ((i : ℕ) → get_or {A = ℕ} bytes i 0 ≡ 0) → (i width : ℕ) → little_from i width bytes ≡ 0
zero-from bytes none i zero = refl
zero-from bytes none i (suc width) = omega (arith, none i, zero-from bytes none (suc i) width)

zeros-none : (n i : ℕ) → get_or {A = ℕ} (replicate n 0) i 0 ≡ 0
zeros-none n i = elim (cases_lt i n) [
  | inl h ↦ get_or-replicate n i 0 0 h
  | inr h ↦ get_or_past (replicate n 0) i 0 (omega (arith, length-replicate {A = ℕ} n 0))
]

empty-none : (at size i : ℕ) → get_or {A = ℕ} (range_of [] at size) i 0 ≡ 0
unfolding range_of
empty-none at size i = get_or_past (take size (drop at [])) i 0 (simp (length-take, length-drop) (omega arith))

same-bit : (one other : List ℕ) → ((i : ℕ) → get_or {A = ℕ} one i 0 ≡ 0) → ((i : ℕ) → get_or {A = ℕ} other i 0 ≡ 0) → (i : ℕ) → is_taken one i ≡ is_taken other i
unfolding is_taken field_of
same-bit one other none nothing i = ap (λ (z : ℕ). is_taken_in z (i % 32)) (zero-from one none (4 * (i / 32)) 4 ∙ sym (zero-from other nothing (4 * (i / 32)) 4))

-- a bit of a part of a file's page
part-bit : (r : Readers) (page : ℕ → List ℕ) (k : ℕ) (extents : List Xad) (at size j i : ℕ) → file_extents r page k ≡ extents → is_taken (part_of page extents at size j) i ≡ is_taken (range_of (file_page r page k j) at size) i
unfolding file_page
part-bit r page k extents at size j i is = rw is (by (bytes_at page (block_of extents j)))
  where
    by : (o : Option (List ℕ)) → is_taken (or_zeros size (option_map (λ p. range_of p at size) o)) i ≡ is_taken (range_of (unwrap_or o []) at size) i
    by None = same-bit (replicate size 0) (range_of [] at size) (zeros-none size) (empty-none at size) i
    by (Some p) = refl

-- the bits of all dmaps
pub blocks-bit : (r : Readers) (page : ℕ → List ℕ) (extents : List Xad) (blocks pages : ℕ) (set : List ℕ) (b : ℕ) → file_extents r page 2 ≡ extents → AreParts 1024 (part_of page extents 3072 1024) 4 pages set → b / 8192 < pages → b < blocks
    → is_taken set b ≡ is_block_used r page blocks b
unfolding is_block_used
blocks-bit r page extents blocks pages set b is parts within below =
    let place : b ≡ 8 * (1024 * (b / 8192)) + b % 8192 = omega arith in
    let bit = taken-parts (part_of page extents 3072 1024) 1024 256 4 pages (b / 8192) (b % 8192) refl parts.each within (omega arith) in
    ap (λ (z : List ℕ). is_taken z b) parts.are ∙ ap (λ (n : ℕ). is_taken (parts_from (part_of page extents 3072 1024) 4 pages) n) place ∙ bit
    ∙ part-bit r page 2 extents 3072 1024 (4 + b / 8192) (b % 8192) is ∙ sym (ap (λ (t : Bool). t && is_taken (range_of (file_page r page 2 (4 + b / 8192)) 3072 1024) (b % 8192)) (lt-ltb b blocks below))

-- the bits of all IAGs
pub inode-bit : (r : Readers) (page : ℕ → List ℕ) (extents : List Xad) (iags : ℕ) (set : List ℕ) (n : ℕ) → file_extents r page 16 ≡ extents → AreParts 512 (part_of page extents 2560 512) 1 iags set → n < 4096 * iags
    → is_taken set n ≡ is_taken (range_of (iag_page r page (n / 4096)) 2560 512) (n % 4096)
inode-bit r page extents iags set n is parts within =
    let place : n ≡ 8 * (512 * (n / 4096)) + n % 4096 = omega arith in
    let next : 1 + n / 4096 ≡ suc (n / 4096) = omega arith in
    let bit = taken-parts (part_of page extents 2560 512) 512 128 1 iags (n / 4096) (n % 4096) refl parts.each (omega arith) (omega arith) in
    ap (λ (z : List ℕ). is_taken z n) parts.are ∙ ap (λ (m : ℕ). is_taken (parts_from (part_of page extents 2560 512) 1 iags) m) place ∙ bit
    ∙ part-bit r page 16 extents 2560 512 (1 + n / 4096) (n % 4096) is ∙ ap (λ (m : ℕ). is_taken (range_of (file_page r page 16 m) 2560 512) (n % 4096)) next

in-use : (r : Readers) (page : ℕ → List ℕ) (set : List ℕ) (n : ℕ) → is_taken set n ≡ is_taken (range_of (iag_page r page (n / 4096)) 2560 512) (n % 4096) → is_inode_used r page n ≡ (is_some (home (extents_on r page) n) && is_taken set n)
unfolding is_inode_used
in-use r page set n bit = sym (ap (λ (t : Bool). is_some (home (extents_on r page) n) && t) bit)

if_ok : {E : Type 0} (r : Result (Vec ℕ) E) (P Q : Vec ℕ → Type 0) → ((v : Vec ℕ) → P v → Q v) → IfOk r P → IfOk r Q
if_ok (Ok v) P Q goes h = goes v h
if_ok (Err e) P Q goes h = tt

pub blocks-read : (image : Image) (maps : Maps) (pages : ℕ) (r : Result (Vec ℕ) ViewError) → maps.blocks ≤ 8192 * pages → IfOk r (λ set. AreParts 1024 (part_of (page_of image) maps.block_map 3072 1024) 4 pages set.items)
    → IfOk r (λ set. AreUsedBlocks image maps set.items)
blocks-read image maps pages r enough = if_ok r _ _ (λ set parts s read b below.
    let subject = subject_of s (page_of image) in
    (blocks-bit subject.readers (page_of image) maps.block_map maps.blocks pages set.items b read.block_map parts (omega arith) below)
    ∙ ap (λ (n : ℕ). is_block_used subject.readers (page_of image) n b) (sym read.blocks))

pub inodes-read : (image : Image) (maps : Maps) (r : Result (Vec ℕ) ViewError) → IfOk r (λ set. AreParts 512 (part_of (page_of image) maps.inodes.extents 2560 512) 1 maps.inodes.iags set.items)
    → IfOk r (λ set. AreUsedInodes image maps set.items)
inodes-read image maps r = if_ok r _ _ (λ set parts s read.
    let subject = subject_of s (page_of image) in
    let bit = λ (n : ℕ) (below : n < 4096 * maps.inodes.iags). inode-bit subject.readers (page_of image) maps.inodes.extents maps.inodes.iags set.items n read.inodes.extents parts below in
    record { bit = bit; in_use = λ n below. in-use subject.readers (page_of image) set.items n (bit n below) })
