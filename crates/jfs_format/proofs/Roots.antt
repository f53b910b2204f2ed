-- The roots of extent trees of a new volume, as pages of extents.
use Rattle.std.proofs.Common.{◌≡◌, ◌≤◌, ◌<◌, ℕ, true, List, [], ◌∷◌, length, refl, ap, ◌∙◌, inl, inr, arith}
use Rattle.std.proofs.lemmas.List.{length-replicate}
use Rattle.jfs_bits.specs.declared.descriptor.Pxd.{Pxd}
use Rattle.jfs_bits.specs.declared.extent.Xad.{Xad}
use Rattle.jfs_bits.specs.Field.{field_of}
use Rattle.jfs_bits.specs.Descriptor.{FitsPxd}
use Rattle.jfs_bits.specs.Extent.{xad_of, xad_pieces}
use Rattle.jfs_bits.specs.Piece.{puts, is_apart_from_all}
use Rattle.jfs_bits.proofs.Descriptors.{length-pxd_bytes}
use Rattle.jfs_bits.proofs.Extents.{xad_of-puts}
use Rattle.jfs_bits.proofs.Parts.{field-in_part, field-from_range}
use Rattle.jfs_bits.proofs.Pieces.{AreLaidOut, length-puts, range_of-puts_other, field_of-puts}
use Rattle.jfs_xtpage.specs.Page.{entries_from, count_of, IsXtPage}
use Rattle.jfs_xtpage.specs.declared.head.XtForm.TheVariants.{Root}
use Rattle.jfs_format.specs.Root.{empty_rest, extent_head, whole_file, no_extents, one_extent}
use Rattle.jfs_format.specs.Laws.{root_in, IsLeafRoot, RootsRead}

-- ---- the header

laid-head : (next : ℕ) → AreLaidOut (extent_head next) (length empty_rest)
laid-head next = record {
  places = (112, 1) ∷ (114, 2) ∷ (116, 2) ∷ [];
  placed = (refl, refl, (refl, refl, (refl, refl, tt)));
  within = refl;
  apart = refl;
}

abbrev headed : ℕ → List ℕ
headed next = puts (extent_head next) empty_rest

record IsHead (next : ℕ) (rest : List ℕ) : Type 0 where
  flag : field_of rest 112 1 ≡ 0x83
  first : field_of rest 114 2 ≡ next
  most : field_of rest 116 2 ≡ 18

head-put : (next : ℕ) → next < 256 → IsHead next (headed next)
head-put next small = record {
  flag = field_of-puts (extent_head next) empty_rest 0 112 1 0x83 (laid-head next) (refl, refl) (omega arith);
  first = field_of-puts (extent_head next) empty_rest 1 114 2 next (laid-head next) (refl, refl) (omega arith);
  most = field_of-puts (extent_head next) empty_rest 2 116 2 18 (laid-head next) (refl, refl) (omega arith);
}

length-headed : (next : ℕ) → length (headed next) ≡ 384
length-headed next = let laid = laid-head next in length-puts (extent_head next) laid.places empty_rest laid.placed laid.within ∙ length-replicate {A = ℕ} 384 0

-- an extent behind it
beside : (x : Xad) (base : List ℕ) (at width : ℕ) → length base ≡ 384 → is_apart_from_all (at, width) ((128, 1) ∷ (131, 1) ∷ (132, 4) ∷ (136, 8) ∷ []) ≡ true → field_of (puts (xad_pieces 128 x) base) at width ≡ field_of base at width
unfolding xad_pieces
beside x base at width size apart =
    field-from_range (puts (xad_pieces 128 x) base) base at width
    (range_of-puts_other (xad_pieces 128 x) ((128, 1) ∷ (131, 1) ∷ (132, 4) ∷ (136, 8) ∷ []) base at width (refl, refl, (refl, refl, (refl, refl, (refl, length-pxd_bytes x.at, tt)))) (rw size refl) apart)

-- ---- as a page of extents

root-page : (next : ℕ) (rest : List ℕ) → 2 ≤ next → next ≤ 3 → IsHead next rest → (field_of (root_in rest) 16 1 ≡ 0x83) × (field_of (root_in rest) 18 2 ≡ next) × IsXtPage Root (root_in rest)
root-page next rest least few head =
    let flag : field_of (root_in rest) 16 1 ≡ 0x83 = field-in_part rest 96 288 16 1 (omega arith) ∙ head.flag in
    let first : field_of (root_in rest) 18 2 ≡ next = field-in_part rest 96 288 18 2 (omega arith) ∙ head.first in
    let most : field_of (root_in rest) 20 2 ≡ 18 = field-in_part rest 96 288 20 2 (omega arith) ∙ head.most in
    (flag, first, (inl (omega (arith, flag)), (inr most, ((omega (arith, first), omega (arith, first, most)), ((λ i h. absurd (omega (arith, h, first))), tt)))))

none-read : IsLeafRoot [] no_extents
unfolding no_extents
none-read =
    let page = root-page 2 (headed 2) (omega arith) (omega arith) (head-put 2 (omega arith)) in
    let count : count_of (root_in (headed 2)) ≡ 0 = omega (arith, page.1) in
    record { leaf = page.0; page = page.2; entries = ap (λ (n : ℕ). entries_from (root_in (headed 2)) 0 n) count }

extent-of-root : (rest : List ℕ) → xad_of (root_in rest) 32 ≡ xad_of rest 128
extent-of-root rest =
    let flag = field-in_part rest 96 288 32 1 (omega arith) in
    let high = field-in_part rest 96 288 35 1 (omega arith) in
    let low = field-in_part rest 96 288 36 4 (omega arith) in
    let first = field-in_part rest 96 288 40 4 (omega arith) in
    let second = field-in_part rest 96 288 44 4 (omega arith) in
    rw (flag, high, low, first, second) refl

one-read : (run : Pxd) → FitsPxd run → IsLeafRoot (whole_file run ∷ []) (one_extent run)
unfolding one_extent
one-read run fits =
    let x = whole_file run in
    let base = headed 3 in
    let size = length-headed 3 in
    let rest = puts (xad_pieces 128 x) base in
    let before = head-put 3 (omega arith) in
    let head : IsHead 3 rest = record {
      flag = beside x base 112 1 size refl ∙ before.flag;
      first = beside x base 114 2 size refl ∙ before.first;
      most = beside x base 116 2 size refl ∙ before.most;
    } in
    let page = root-page 3 rest (omega arith) (omega arith) head in
    let count : count_of (root_in rest) ≡ 1 = omega (arith, page.1) in
    let held : xad_of rest 128 ≡ x = xad_of-puts 128 x base (omega (arith, size)) (record { flag = omega arith; offset = omega arith; run = fits }) in
    record {
      leaf = page.0;
      page = page.2;
      entries = ap (λ (n : ℕ). entries_from (root_in rest) 0 n) count ∙ ap (λ (e : Xad). let one : List Xad = e ∷ [] in one) (extent-of-root rest ∙ held);
    }

pub roots-read : RootsRead
roots-read = record { none = none-read; one = one-read }
