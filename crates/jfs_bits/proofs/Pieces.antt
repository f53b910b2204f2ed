-- After several fields are put, each reads as what was put there.
use Rattle.std.proofs.Common.{◌≡◌, ◌<◌, ◌≤◌, ◌+◌, ◌^◌, ℕ, zero, suc, Bool, true, false, List, [], ◌∷◌, ◌⊎◌, inl, inr, length, get_or, refl, sym, ap, subst, ◌∙◌, arith}
use Rattle.std.specs.Prelude.{nat_le, nat_lt, ◌&&◌, ◌||◌}
use Rattle.std.proofs.lemmas.Bool.{leb-true, ltb-true}
use Rattle.std.proofs.lemmas.List.{append-nil}
use Rattle.byteorder.specs.Endian.{little_bytes}
use Rattle.byteorder.specs.Numbers.{length-bytes_low_first}
use Rattle.jfs_bits.specs.declared.descriptor.Pxd.{Pxd}
use Rattle.jfs_bits.specs.declared.descriptor.Moment.{Moment}
use Rattle.jfs_bits.specs.Descriptor.{pxd_of, pxd_bytes, FitsPxd, moment_of, moment_bytes}
use Rattle.jfs_bits.specs.Field.{field_of, put_bytes, range_of}
use Rattle.jfs_bits.specs.Piece.{Piece, puts, Place, is_apart, is_apart_from_all, are_apart, are_within}
use Rattle.jfs_bits.proofs.Ranges.{length-put_bytes, range_of-put_same, range_of-put_other, field_of-range, field_of-number}
use Rattle.jfs_bits.proofs.Descriptors.{pxd_of-range, pxd_of-bytes, length-pxd_bytes, moment_of-range, moment_of-bytes, length-moment_bytes}

-- the pieces have these places
abbrev pub ArePlaced : List Piece → List Place → Type 0
ArePlaced [] [] = Unit {0}
ArePlaced [] (q ∷ qs) = ⊥
ArePlaced (p ∷ ps) [] = ⊥
ArePlaced (p ∷ ps) (q ∷ qs) = (p.at ≡ q.0) × (length p.bytes ≡ q.1) × ArePlaced ps qs

both : (a b : Bool) → (a && b) ≡ true → (a ≡ true) × (b ≡ true)
both true true e = (refl, refl)
both true false e = absurd cc
both false b e = absurd cc

either : (a b : Bool) → (a || b) ≡ true → (a ≡ true) ⊎ (b ≡ true)
either true b e = inl refl
either false true e = inr refl
either false false e = absurd cc

pub length-puts : (ps : List Piece) (qs : List Place) (page : List ℕ) → ArePlaced ps qs → are_within (length page) qs ≡ true → length (puts ps page) ≡ length page
unfolding puts
length-puts [] qs page placed within = refl
length-puts (p ∷ ps) [] page placed within = absurd placed
length-puts (p ∷ ps) (q ∷ qs) page placed within =
    let w = both (nat_le (q.0 + q.1) (length page)) (are_within (length page) qs) within in
    let fits = leb-true (q.0 + q.1) (length page) w.0 in
    let one = length-put_bytes p.at p.bytes page (omega (arith, placed.0, placed.1)) in
    length-puts ps qs (put_bytes p.at p.bytes page) placed.2 (rw one w.1) ∙ one

-- a range that no piece meets is as it was
pub range_of-puts_other : (ps : List Piece) (qs : List Place) (page : List ℕ) (at width : ℕ) → ArePlaced ps qs → are_within (length page) qs ≡ true → is_apart_from_all (at, width) qs ≡ true → range_of (puts ps page) at width ≡ range_of page at width
unfolding puts
range_of-puts_other [] qs page at width placed within clear = refl
range_of-puts_other (p ∷ ps) [] page at width placed within clear = absurd placed
range_of-puts_other (p ∷ ps) (q ∷ qs) page at width placed within clear =
    let w = both (nat_le (q.0 + q.1) (length page)) (are_within (length page) qs) within in
    let fits = leb-true (q.0 + q.1) (length page) w.0 in
    let one = length-put_bytes p.at p.bytes page (omega (arith, placed.0, placed.1)) in
    let k = both (is_apart (at, width) q) (is_apart_from_all (at, width) qs) clear in
    let side : (at + width ≤ p.at) ⊎ (p.at + length p.bytes ≤ at) =
    elim (either (nat_le (at + width) q.0) (nat_le (q.0 + q.1) at) k.0) [
      | inl before ↦ let h = leb-true (at + width) q.0 before in inl (omega (arith, placed.0))
      | inr after ↦ let h = leb-true (q.0 + q.1) at after in inr (omega (arith, placed.0, placed.1))
    ] in
    range_of-puts_other ps qs (put_bytes p.at p.bytes page) at width placed.2 (rw one w.1) k.1
    ∙ range_of-put_other at width p.at p.bytes page (omega (arith, placed.0, placed.1)) side

-- each piece is read where it was put
pub range_of-puts : (ps : List Piece) (qs : List Place) (page : List ℕ) (i : ℕ) (d : Piece) → i < length ps → ArePlaced ps qs → are_within (length page) qs ≡ true → are_apart qs ≡ true → range_of (puts ps page) (get_or ps i d).at (length (get_or ps i d).bytes) ≡ (get_or ps i d).bytes
unfolding puts
range_of-puts [] qs page i d h placed within apart = absurd (omega arith)
range_of-puts (p ∷ ps) [] page i d h placed within apart = absurd placed
range_of-puts (p ∷ ps) (q ∷ qs) page zero d h placed within apart =
    let w = both (nat_le (q.0 + q.1) (length page)) (are_within (length page) qs) within in
    let fits = leb-true (q.0 + q.1) (length page) w.0 in
    let one = length-put_bytes p.at p.bytes page (omega (arith, placed.0, placed.1)) in
    let k = both (is_apart_from_all q qs) (are_apart qs) apart in
    let same : is_apart_from_all (p.at, length p.bytes) qs ≡ true = rw (placed.0, placed.1) k.0 in
    range_of-puts_other ps qs (put_bytes p.at p.bytes page) p.at (length p.bytes) placed.2 (rw one w.1) same
    ∙ range_of-put_same p.at p.bytes page (omega (arith, placed.0, placed.1))
range_of-puts (p ∷ ps) (q ∷ qs) page (suc i) d h placed within apart =
    let w = both (nat_le (q.0 + q.1) (length page)) (are_within (length page) qs) within in
    let fits = leb-true (q.0 + q.1) (length page) w.0 in
    let one = length-put_bytes p.at p.bytes page (omega (arith, placed.0, placed.1)) in
    let k = both (is_apart_from_all q qs) (are_apart qs) apart in
    range_of-puts ps qs (put_bytes p.at p.bytes page) i d (omega arith) placed.2 (rw one w.1) k.1

-- pieces that have their own places within a page of this size
pub record AreLaidOut (ps : List Piece) (size : ℕ) : Type 0 where
  pub places : List Place
  pub placed : ArePlaced ps places
  pub within : are_within size places ≡ true
  pub apart : are_apart places ≡ true

-- the i-th piece is these bytes at this place
abbrev pub IsPiece : List Piece → ℕ → ℕ → List ℕ → Type 0
IsPiece ps i at bytes = (nat_lt i (length ps) ≡ true) × (get_or ps i (record { at = at; bytes = bytes }) ≡ record { at = at; bytes = bytes })

pub range_at-puts : (ps : List Piece) (page : List ℕ) (i at width : ℕ) (bytes : List ℕ) → AreLaidOut ps (length page) → IsPiece ps i at bytes → length bytes ≡ width → range_of (puts ps page) at width ≡ bytes
range_at-puts ps page i at width bytes laid is size =
    let d : Piece = record { at = at; bytes = bytes } in
    let read = range_of-puts ps laid.places page i d (ltb-true i (length ps) is.0) laid.placed laid.within laid.apart in
    sym (ap (λ (w : ℕ). range_of (puts ps page) at w) size) ∙ subst (λ (p : Piece). range_of (puts ps page) p.at (length p.bytes) ≡ p.bytes) is.1 read

pub field_of-puts : (ps : List Piece) (page : List ℕ) (i at width x : ℕ) → AreLaidOut ps (length page) → IsPiece ps i at (little_bytes width x) → x < 256 ^ width → field_of (puts ps page) at width ≡ x
field_of-puts ps page i at width x laid is fits =
    field_of-range (puts ps page) at width
    ∙ ap (λ (z : List ℕ). field_of z 0 width) (range_at-puts ps page i at width (little_bytes width x) laid is (length-bytes_low_first 0 width x) ∙ sym (append-nil (little_bytes width x)))
    ∙ field_of-number width x [] fits

pub pxd_of-puts : (ps : List Piece) (page : List ℕ) (i at : ℕ) (p : Pxd) → AreLaidOut ps (length page) → IsPiece ps i at (pxd_bytes p) → FitsPxd p → pxd_of (puts ps page) at ≡ p
pxd_of-puts ps page i at p laid is fits =
    pxd_of-range (puts ps page) at ∙ ap (λ (z : List ℕ). pxd_of z 0) (range_at-puts ps page i at 8 (pxd_bytes p) laid is (length-pxd_bytes p)) ∙ pxd_of-bytes p fits

pub moment_of-puts : (ps : List Piece) (page : List ℕ) (i at : ℕ) (m : Moment) → AreLaidOut ps (length page) → IsPiece ps i at (moment_bytes m) → m.sec < 2 ^ 32 → m.nano < 2 ^ 32 → moment_of (puts ps page) at ≡ m
moment_of-puts ps page i at m laid is sec nano =
    moment_of-range (puts ps page) at ∙ ap (λ (z : List ℕ). moment_of z 0) (range_at-puts ps page i at 8 (moment_bytes m) laid is (length-moment_bytes m)) ∙ moment_of-bytes m sec nano
