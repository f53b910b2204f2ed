-- Entries and header fields of a page in which bytes were put.
use Rattle.std.proofs.Common.{◌≡◌, ◌≤◌, ◌<◌, ◌⊎◌, inl, inr, refl, sym, ap, ◌∙◌, ℕ, ◌+◌, ◌-◌, ◌*◌, ◌/◌, ◌%◌, ◌^◌, List, ◌++◌, length, take, drop, append_assoc, arith}
use Rattle.std.proofs.Math.Seq.{paste}
use Rattle.std.proofs.lemmas.List.{take-append-drop, length-take-le, length-drop}
use Rattle.std.proofs.lemmas.List.Edits.{take-paste, drop-paste}
use Rattle.byteorder.specs.Endian.{little_bytes}
use Rattle.byteorder.specs.Numbers.{length-bytes_low_first}
use Rattle.jfs_bits.specs.declared.extent.Xad.{Xad}
use Rattle.jfs_bits.specs.Field.{field_of, range_of, put_bytes}
use Rattle.jfs_bits.specs.Descriptor.{pxd_bytes}
use Rattle.jfs_bits.specs.Extent.{xad_of, xad_pieces}
use Rattle.jfs_bits.specs.Piece.{puts}
use Rattle.jfs_bits.proofs.Ranges.{length-put_bytes, range_of-put_same, range_of-put_other, range_of-within}
use Rattle.jfs_bits.proofs.Parts.{field-in_part, length-range_of}
use Rattle.jfs_bits.proofs.Descriptors.{length-pxd_bytes}
use Rattle.jfs_bits.proofs.Words.{field_of-put_same, field_of-put_other}
use Rattle.jfs_xtpage.specs.Page.{entry_of, head_of}

-- a number within two equal ranges
pub field_by : (a b : List ℕ) (p q w k n i j : ℕ) → i ≡ p + k → j ≡ q + k → k + n ≤ w → range_of a p w ≡ range_of b q w → field_of a i n ≡ field_of b j n
field_by a b p q w k n i j ei ej h e =
    ap (λ t. field_of a t n) ei ∙ sym (field-in_part a p w k n h) ∙ ap (λ (z : List ℕ). field_of z k n) e ∙ field-in_part b q w k n h ∙ sym (ap (λ t. field_of b t n) ej)

-- an entry reads its own 16 bytes alone
pub xad_by : (a b : List ℕ) (p q : ℕ) → range_of a p 16 ≡ range_of b q 16 → xad_of a p ≡ xad_of b q
xad_by a b p q e =
    let flag = field_by a b p q 16 0 1 p q (omega arith) (omega arith) (omega arith) e in
    let high = field_by a b p q 16 3 1 (p + 3) (q + 3) refl refl (omega arith) e in
    let low = field_by a b p q 16 4 4 (p + 4) (q + 4) refl refl (omega arith) e in
    let first = field_by a b p q 16 8 4 (p + 8) (q + 8) refl refl (omega arith) e in
    let second = field_by a b p q 16 12 4 (p + 8 + 4) (q + 8 + 4) (omega arith) (omega arith) (omega arith) e in
    rw (flag, high, low, first, second) refl

-- a header reads the first 32 bytes alone
pub head_by : (a b : List ℕ) → range_of a 0 32 ≡ range_of b 0 32 → head_of a ≡ head_of b
head_by a b e =
    rw (
      field_by a b 0 0 32 0 8 0 0 (omega arith) (omega arith) (omega arith) e,
      field_by a b 0 0 32 8 8 8 8 (omega arith) (omega arith) (omega arith) e,
      field_by a b 0 0 32 16 1 16 16 (omega arith) (omega arith) (omega arith) e,
      field_by a b 0 0 32 18 2 18 18 (omega arith) (omega arith) (omega arith) e,
      field_by a b 0 0 32 20 2 20 20 (omega arith) (omega arith) (omega arith) e,
      field_by a b 0 0 32 24 4 24 24 (omega arith) (omega arith) (omega arith) e,
      field_by a b 0 0 32 28 4 28 28 (omega arith) (omega arith) (omega arith) e,
    ) refl

-- the header with another place behind its last entry
pub head_next : (bytes : List ℕ) (v : ℕ) → 32 ≤ length bytes → v < 2 ^ 16 → head_of (put_bytes 18 (little_bytes 2 v) bytes) ≡ record (head_of bytes) { nextindex = v }
head_next bytes v size fits =
    let w = length-bytes_low_first 0 2 v in
    let new = little_bytes 2 v in
    rw (
      field_of-put_other 0 8 18 new bytes (omega (arith, w, size)) (inl (omega arith)),
      field_of-put_other 8 8 18 new bytes (omega (arith, w, size)) (inl (omega arith)),
      field_of-put_other 16 1 18 new bytes (omega (arith, w, size)) (inl (omega arith)),
      field_of-put_same 18 2 v bytes w (omega (arith, size)) (omega (arith, fits)),
      field_of-put_other 20 2 18 new bytes (omega (arith, w, size)) (inr (omega (arith, w))),
      field_of-put_other 24 4 18 new bytes (omega (arith, w, size)) (inr (omega (arith, w))),
      field_of-put_other 28 4 18 new bytes (omega (arith, w, size)) (inr (omega (arith, w))),
    ) refl

-- the header with another flag
pub head_flag : (bytes : List ℕ) (v : ℕ) → 32 ≤ length bytes → v < 2 ^ 8 → head_of (put_bytes 16 (little_bytes 1 v) bytes) ≡ record (head_of bytes) { flag = v }
head_flag bytes v size fits =
    let w = length-bytes_low_first 0 1 v in
    let new = little_bytes 1 v in
    rw (
      field_of-put_other 0 8 16 new bytes (omega (arith, w, size)) (inl (omega arith)),
      field_of-put_other 8 8 16 new bytes (omega (arith, w, size)) (inl (omega arith)),
      field_of-put_same 16 1 v bytes w (omega (arith, size)) (omega (arith, fits)),
      field_of-put_other 18 2 16 new bytes (omega (arith, w, size)) (inr (omega (arith, w))),
      field_of-put_other 20 2 16 new bytes (omega (arith, w, size)) (inr (omega (arith, w))),
      field_of-put_other 24 4 16 new bytes (omega (arith, w, size)) (inr (omega (arith, w))),
      field_of-put_other 28 4 16 new bytes (omega (arith, w, size)) (inr (omega (arith, w))),
    ) refl

-- bytes that are put before the entries leave them
pub entry_kept : (at : ℕ) (new bytes : List ℕ) (i : ℕ) → at + length new ≤ 32 → at + length new ≤ length bytes → entry_of (put_bytes at new bytes) i ≡ entry_of bytes i
entry_kept at new bytes i h w = xad_by (put_bytes at new bytes) bytes (32 + 16 * i) (32 + 16 * i) (range_of-put_other (32 + 16 * i) 16 at new bytes w (inr (omega (arith, h))))

-- what lies beside an extent that is put
pub xad_beside : (at p w : ℕ) (x : Xad) (bytes : List ℕ) → at + 16 ≤ length bytes → (p + w ≤ at) ⊎ (at + 16 ≤ p) → range_of (puts (xad_pieces at x) bytes) p w ≡ range_of bytes p w
unfolding puts xad_pieces
xad_beside at p w x bytes h side =
    let one = put_bytes at (little_bytes 1 x.flag) bytes in
    let two = put_bytes (at + 3) (little_bytes 1 (x.offset / 2 ^ 32)) one in
    let three = put_bytes (at + 4) (little_bytes 4 (x.offset % 2 ^ 32)) two in
    let size1 = length-put_bytes at (little_bytes 1 x.flag) bytes (omega (arith, h)) in
    let size2 = length-put_bytes (at + 3) (little_bytes 1 (x.offset / 2 ^ 32)) one (omega (arith, h, size1)) in
    let size3 = length-put_bytes (at + 4) (little_bytes 4 (x.offset % 2 ^ 32)) two (omega (arith, h, size1, size2)) in
    let width = length-pxd_bytes x.at in
    elim side [
      | inl l ↦ range_of-put_other p w (at + 8) (pxd_bytes x.at) three (omega (arith, h, size1, size2, size3, width)) (inl (omega (arith, l)))
          ∙ range_of-put_other p w (at + 4) (little_bytes 4 (x.offset % 2 ^ 32)) two (omega (arith, h, size1, size2)) (inl (omega (arith, l)))
          ∙ range_of-put_other p w (at + 3) (little_bytes 1 (x.offset / 2 ^ 32)) one (omega (arith, h, size1)) (inl (omega (arith, l)))
          ∙ range_of-put_other p w at (little_bytes 1 x.flag) bytes (omega (arith, h)) (inl l)
      | inr l ↦ range_of-put_other p w (at + 8) (pxd_bytes x.at) three (omega (arith, h, size1, size2, size3, width)) (inr (omega (arith, l, width)))
          ∙ range_of-put_other p w (at + 4) (little_bytes 4 (x.offset % 2 ^ 32)) two (omega (arith, h, size1, size2)) (inr (omega (arith, l)))
          ∙ range_of-put_other p w (at + 3) (little_bytes 1 (x.offset / 2 ^ 32)) one (omega (arith, h, size1)) (inr (omega (arith, l)))
          ∙ range_of-put_other p w at (little_bytes 1 x.flag) bytes (omega (arith, h)) (inr (omega (arith, l)))
    ]

pub length-xad : (at : ℕ) (x : Xad) (bytes : List ℕ) → at + 16 ≤ length bytes → length (puts (xad_pieces at x) bytes) ≡ length bytes
unfolding puts xad_pieces
length-xad at x bytes h =
    let one = put_bytes at (little_bytes 1 x.flag) bytes in
    let two = put_bytes (at + 3) (little_bytes 1 (x.offset / 2 ^ 32)) one in
    let three = put_bytes (at + 4) (little_bytes 4 (x.offset % 2 ^ 32)) two in
    let size1 = length-put_bytes at (little_bytes 1 x.flag) bytes (omega (arith, h)) in
    let size2 = length-put_bytes (at + 3) (little_bytes 1 (x.offset / 2 ^ 32)) one (omega (arith, h, size1)) in
    let size3 = length-put_bytes (at + 4) (little_bytes 4 (x.offset % 2 ^ 32)) two (omega (arith, h, size1, size2)) in
    let width = length-pxd_bytes x.at in
    length-put_bytes (at + 8) (pxd_bytes x.at) three (omega (arith, h, size1, size2, size3, width)) ∙ size3 ∙ size2 ∙ size1

-- bytes moved within a page
pub pasted : (bytes : List ℕ) (from end dest : ℕ) → from ≤ end → end ≤ length bytes → dest + (end - from) ≤ length bytes
    → paste bytes dest (drop from bytes) (end - from) ≡ put_bytes dest (range_of bytes from (end - from)) bytes
unfolding put_bytes range_of
pasted bytes from end dest order within room =
    let n = end - from in
    let rest = length-drop from bytes in
    let size = length-take-le n (drop from bytes) (omega (arith, order, within, rest)) in
    sym (take-append-drop (dest + n) (paste bytes dest (drop from bytes) n))
    ∙ ap (λ (z : List ℕ). z ++ drop (dest + n) (paste bytes dest (drop from bytes) n)) (take-paste bytes dest (drop from bytes) n (omega (arith, room)) (omega (arith, order, within, rest)))
    ∙ ap (λ (z : List ℕ). (take dest bytes ++ take n (drop from bytes)) ++ z) (drop-paste bytes dest (drop from bytes) n (omega (arith, room)) (omega (arith, order, within, rest)))
    ∙ append_assoc (take dest bytes) (take n (drop from bytes)) (drop (dest + n) bytes)
    ∙ ap (λ (k : ℕ). take dest bytes ++ (take n (drop from bytes) ++ drop (dest + k) bytes)) (sym size)

-- a part of what was moved
pub range_moved : (from to : List ℕ) (at w dest p n i : ℕ) → at + w ≤ length from → dest + w ≤ length to → p + n ≤ w → i ≡ dest + p
    → range_of (put_bytes dest (range_of from at w) to) i n ≡ range_of from (at + p) n
range_moved from to at w dest p n i h k l e =
    let size = length-range_of from at w h in
    ap (λ t. range_of (put_bytes dest (range_of from at w) to) t n) e
    ∙ sym (range_of-within (put_bytes dest (range_of from at w) to) dest w p n l)
    ∙ ap (λ (z : List ℕ). range_of z p n) (ap (λ t. range_of (put_bytes dest (range_of from at w) to) dest t) (sym size) ∙ range_of-put_same dest (range_of from at w) to (omega (arith, size, k)))
    ∙ range_of-within from at w p n l
