-- The fields of the control page of an inode map, read after they were put.
use Rattle.std.proofs.Common.{◌≡◌, ◌<◌, ◌≤◌, ◌+◌, ◌*◌, ℕ, List, [], ◌∷◌, ◌⊎◌, inl, inr, length, get_or, refl, sym, ◌∙◌, arith, ◌≢◌}
use Rattle.std.proofs.lemmas.Bool.{cases_lt}
use Rattle.byteorder.specs.Endian.{little_bytes}
use Rattle.jfs_bits.specs.Field.{range_of, put_bytes}
use Rattle.jfs_bits.specs.Piece.{puts}
use Rattle.jfs_bits.proofs.Ranges.{length-put_bytes, range_of-put_other}
use Rattle.jfs_bits.proofs.Words.{field_of-put_same, field_of-put_other}
use Rattle.jfs_bits.proofs.Parts.{field-from_range}
use Rattle.jfs_bits.proofs.Pieces.{AreLaidOut, field_of-puts, range_of-puts_other, length-puts}
use Rattle.jfs_iag.specs.declared.control.InodeGroup.{InodeGroup}
use Rattle.jfs_iag.specs.declared.control.InodeControl.{InodeControl}
use Rattle.jfs_iag.specs.Control.{IsInodeControl, FitsHead, FitsGroup, head_of, group_pieces, group_at, no_group}

laid_out : (c : InodeControl) (page : List ℕ) → length page ≡ 4096 → AreLaidOut (head_of c) (length page)
unfolding head_of
laid_out c page size = record {
  places = (0, 4) ∷ (4, 4) ∷ (8, 4) ∷ (12, 4) ∷ (16, 4) ∷ (20, 4) ∷ (24, 4) ∷ (28, 4) ∷ [];
  placed = (refl, refl, (refl, refl, (refl, refl, (refl, refl, (refl, refl, (refl, refl, (refl, refl, (refl, refl, tt))))))));
  within = rw size refl;
  apart = refl;
}

-- a page that has these fields, and the groups behind them
pub control-put : (c : InodeControl) (page new : List ℕ) → FitsHead c → length page ≡ 4096
    → ((p n : ℕ) → p + n ≤ 2048 → range_of new p n ≡ range_of (puts (head_of c) page) p n)
    → ((g : ℕ) → g < 128 → group_at new g ≡ get_or c.groups g no_group)
    → IsInodeControl c new
unfolding head_of
control-put c page new f size stays groups =
    let ps = head_of c in
    let laid = laid_out c page size in
    let field_stays = λ (p n : ℕ) (h : p + n ≤ 2048). field-from_range new (puts ps page) p n (stays p n h) in
    record {
      freeiag = sym (field_stays 0 4 (omega arith) ∙ field_of-puts ps page 0 0 4 c.freeiag laid (refl, refl) f.freeiag);
      nextiag = sym (field_stays 4 4 (omega arith) ∙ field_of-puts ps page 1 4 4 c.nextiag laid (refl, refl) f.nextiag);
      numinos = sym (field_stays 8 4 (omega arith) ∙ field_of-puts ps page 2 8 4 c.numinos laid (refl, refl) f.numinos);
      numfree = sym (field_stays 12 4 (omega arith) ∙ field_of-puts ps page 3 12 4 c.numfree laid (refl, refl) f.numfree);
      nbperiext = sym (field_stays 16 4 (omega arith) ∙ field_of-puts ps page 4 16 4 c.nbperiext laid (refl, refl) f.nbperiext);
      l2nbperiext = sym (field_stays 20 4 (omega arith) ∙ field_of-puts ps page 5 20 4 c.l2nbperiext laid (refl, refl) f.l2nbperiext);
      diskblock = sym (field_stays 24 4 (omega arith) ∙ field_of-puts ps page 6 24 4 c.diskblock laid (refl, refl) f.diskblock);
      maxag = sym (field_stays 28 4 (omega arith) ∙ field_of-puts ps page 7 28 4 c.maxag laid (refl, refl) f.maxag);
      groups = λ g h. sym (groups g h);
    }

pub head-pad : (c : InodeControl) (page : List ℕ) → length page ≡ 4096 → range_of (puts (head_of c) page) 32 2016 ≡ range_of page 32 2016
unfolding head_of laid_out
head-pad c page size = let laid = laid_out c page size in range_of-puts_other (head_of c) laid.places page 32 2016 laid.placed laid.within refl

pub head-size : (c : InodeControl) (page : List ℕ) → length page ≡ 4096 → length (puts (head_of c) page) ≡ 4096
head-size c page size = let laid = laid_out c page size in length-puts (head_of c) laid.places page laid.placed laid.within ∙ size

pub group-put : (g : ℕ) (group : InodeGroup) (page : List ℕ) → g < 128 → length page ≡ 4096 → FitsGroup group → group_at (puts (group_pieces g group) page) g ≡ group
unfolding puts group_pieces
group-put g group page h size f =
    let at = 2048 + 16 * g in
    let one = put_bytes at (little_bytes 4 group.inofree) page in
    let two = put_bytes (at + 4) (little_bytes 4 group.extfree) one in
    let three = put_bytes (at + 8) (little_bytes 4 group.numinos) two in
    let size1 = length-put_bytes at (little_bytes 4 group.inofree) page (omega arith) in
    let size2 = length-put_bytes (at + 4) (little_bytes 4 group.extfree) one (omega (arith, size1)) in
    let size3 = length-put_bytes (at + 8) (little_bytes 4 group.numinos) two (omega (arith, size1, size2)) in
    let last = field_of-put_same (at + 12) 4 group.numfree three refl (omega (arith, size1, size2, size3)) f.numfree in
    let third = field_of-put_other (at + 8) 4 (at + 12) (little_bytes 4 group.numfree) three (omega (arith, size1, size2, size3)) (inl (omega arith)) ∙ field_of-put_same (at + 8) 4 group.numinos two refl (omega (arith, size1, size2)) f.numinos in
    let second = field_of-put_other (at + 4) 4 (at + 12) (little_bytes 4 group.numfree) three (omega (arith, size1, size2, size3)) (inl (omega arith)) ∙ field_of-put_other (at + 4) 4 (at + 8) (little_bytes 4 group.numinos) two (omega (arith, size1, size2)) (inl (omega arith)) ∙ field_of-put_same (at + 4) 4 group.extfree one refl (omega (arith, size1)) f.extfree in
    let first = field_of-put_other at 4 (at + 12) (little_bytes 4 group.numfree) three (omega (arith, size1, size2, size3)) (inl (omega arith)) ∙ field_of-put_other at 4 (at + 8) (little_bytes 4 group.numinos) two (omega (arith, size1, size2)) (inl (omega arith)) ∙ field_of-put_other at 4 (at + 4) (little_bytes 4 group.extfree) one (omega (arith, size1)) (inl (omega arith)) ∙ field_of-put_same at 4 group.inofree page refl (omega arith) f.inofree in
    rw (first, second, third, last) refl

clear : (g p n k : ℕ) → 2048 + 16 * g ≤ k → k + 4 ≤ 2048 + 16 * g + 16 → (p + n ≤ 2048 + 16 * g) ⊎ (2048 + 16 * g + 16 ≤ p) → (p + n ≤ k) ⊎ (k + 4 ≤ p)
clear g p n k low high (inl a) = inl (omega arith)
clear g p n k low high (inr b) = inr (omega arith)

pub group-beside : (g : ℕ) (group : InodeGroup) (page : List ℕ) (p n : ℕ) → g < 128 → length page ≡ 4096 → (p + n ≤ 2048 + 16 * g) ⊎ (2048 + 16 * g + 16 ≤ p) → range_of (puts (group_pieces g group) page) p n ≡ range_of page p n
unfolding puts group_pieces
group-beside g group page p n h size side =
    let at = 2048 + 16 * g in
    let one = put_bytes at (little_bytes 4 group.inofree) page in
    let two = put_bytes (at + 4) (little_bytes 4 group.extfree) one in
    let three = put_bytes (at + 8) (little_bytes 4 group.numinos) two in
    let size1 = length-put_bytes at (little_bytes 4 group.inofree) page (omega arith) in
    let size2 = length-put_bytes (at + 4) (little_bytes 4 group.extfree) one (omega (arith, size1)) in
    let size3 = length-put_bytes (at + 8) (little_bytes 4 group.numinos) two (omega (arith, size1, size2)) in
    let other = λ (k : ℕ) (low : 2048 + 16 * g ≤ k) (high : k + 4 ≤ 2048 + 16 * g + 16). clear g p n k low high side in
    range_of-put_other p n (at + 12) (little_bytes 4 group.numfree) three (omega (arith, size1, size2, size3)) (other (at + 12) (omega arith) (omega arith))
    ∙ range_of-put_other p n (at + 8) (little_bytes 4 group.numinos) two (omega (arith, size1, size2)) (other (at + 8) (omega arith) (omega arith))
    ∙ range_of-put_other p n (at + 4) (little_bytes 4 group.extfree) one (omega (arith, size1)) (other (at + 4) (omega arith) (omega arith))
    ∙ range_of-put_other p n at (little_bytes 4 group.inofree) page (omega arith) (other at (omega arith) (omega arith))

-- another group stays
pub group-same : (g j : ℕ) (group : InodeGroup) (page : List ℕ) → g < 128 → j ≢ g → length page ≡ 4096 → group_at (puts (group_pieces g group) page) j ≡ group_at page j
group-same g j group page h other size =
    let side : (2048 + 16 * j + 16 ≤ 2048 + 16 * g) ⊎ (2048 + 16 * g + 16 ≤ 2048 + 16 * j) = elim (cases_lt j g) [ inl a ↦ inl (omega arith) | inr a ↦ inr (omega arith) ] in
    let stays = λ (i : ℕ) (small : i ≤ 12). field-from_range (puts (group_pieces g group) page) page (2048 + 16 * j + i) 4 (group-beside g group page (2048 + 16 * j + i) 4 h size (elim side [ inl a ↦ inl (omega arith) | inr a ↦ inr (omega arith) ])) in
    let zero : 2048 + 16 * j + 0 ≡ 2048 + 16 * j = omega arith in
    rw (rw zero at (stays 0 (omega arith)), stays 4 (omega arith), stays 8 (omega arith), stays 12 (omega arith)) refl
