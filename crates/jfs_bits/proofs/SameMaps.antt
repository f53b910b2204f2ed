-- Maps and descriptors that say the same hold the same bytes.
use Rattle.std.proofs.Common.{◌≡◌, ◌<◌, ◌≤◌, ◌+◌, ◌-◌, ◌*◌, ◌/◌, ◌%◌, ◌^◌, ℕ, suc, inl, inr, List, length, refl, sym, ap, ◌∙◌, arith}
use Rattle.std.specs.Prelude.{◌==◌}
use Rattle.std.proofs.lemmas.Bool.{cases_eq, cases_lt, eq-eqb, ne_eqb, both_ways}
use Rattle.std.proofs.lemmas.Nat.Bits.{bit_at-lt, same_from_bits_below}
use Rattle.jfs_bits.specs.declared.descriptor.Pxd.{Pxd}
use Rattle.jfs_bits.specs.Bits.{is_taken, is_taken_in}
use Rattle.jfs_bits.specs.Descriptor.{pxd_of}
use Rattle.jfs_bits.specs.Field.{field_of, range_of, AreBytes}
use Rattle.jfs_bits.proofs.Places.{SameAt, field-same, part-at, bytes-within}

-- a word by its blocks
bit-same : (x y : ℕ) → x < 2 → y < 2 → (x == 1) ≡ (y == 1) → x ≡ y
bit-same x y small little same =
    elim (cases_eq x 1) [
      | inl a ↦ elim (cases_eq y 1) [ inl b ↦ a ∙ sym b | inr b ↦ absurd (both_ways (y == 1) (ne_eqb y 1 b) (sym same ∙ eq-eqb x 1 a)) ]
      | inr a ↦ elim (cases_eq y 1) [ inl b ↦ absurd (both_ways (x == 1) (ne_eqb x 1 a) (same ∙ eq-eqb y 1 b)) | inr b ↦ omega arith ]
    ]

-- a block of a word is a block of the map
pub word-bit : (map : List ℕ) (w i : ℕ) → i < 32 → is_taken map (32 * w + i) ≡ is_taken_in (field_of map (4 * w) 4) i
unfolding is_taken
word-bit map w i h =
    let word : (32 * w + i) / 32 ≡ w = omega arith in
    let place : (32 * w + i) % 32 ≡ i = omega arith in
    rw (word, place) refl

pub word-below : (map : List ℕ) (at : ℕ) → AreBytes map → field_of map at 4 < 2 ^ 32
unfolding field_of
word-below map at bytes = omega (arith, bytes at, bytes (suc at), bytes (suc (suc at)), bytes (suc (suc (suc at))))

pub word-same : (one other : List ℕ) (w : ℕ) → AreBytes one → AreBytes other → ((i : ℕ) → i < 32 → is_taken one (32 * w + i) ≡ is_taken other (32 * w + i)) → field_of one (4 * w) 4 ≡ field_of other (4 * w) 4
unfolding is_taken_in
word-same one other w bytes others same =
    same_from_bits_below 32 _ _ (word-below one (4 * w) bytes) (word-below other (4 * w) others) (λ j h.
    let mirrored : 31 - (31 - j) ≡ j = omega arith in
    let tests = sym (word-bit one w (31 - j) (omega arith)) ∙ same (31 - j) (omega arith) ∙ word-bit other w (31 - j) (omega arith) in
    bit-same _ _ (bit_at-lt (field_of one (4 * w) 4) j) (bit_at-lt (field_of other (4 * w) 4) j) (rw mirrored at tests))

-- maps of so many words
pub map-same : (at words : ℕ) (one other : List ℕ) → AreBytes one → AreBytes other → at + 4 * words ≤ length one → at + 4 * words ≤ length other → ((b : ℕ) → b < 32 * words → is_taken (range_of one at (4 * words)) b ≡ is_taken (range_of other at (4 * words)) b) → SameAt one other at (4 * words)
map-same at words one other bytes others long wide same k past near =
    let p = k - at in
    let here : at + p ≡ k = omega arith in
    let mine = bytes-within one at (4 * words) long bytes in
    let theirs = bytes-within other at (4 * words) wide others in
    let word = word-same (range_of one at (4 * words)) (range_of other at (4 * words)) (p / 4) mine theirs (λ i h. same (32 * (p / 4) + i) (omega arith)) in
    let place = field-same (4 * (p / 4)) 4 (range_of one at (4 * words)) (range_of other at (4 * words)) mine theirs word p (omega arith) (omega arith) in
    rw here at (sym (part-at one at (4 * words) p (omega arith)) ∙ place ∙ part-at other at (4 * words) p (omega arith))

-- the words of a run
run-words : (a b c d : ℕ) → b < 2 ^ 32 → d < 2 ^ 32 → a % 2 ^ 24 ≡ c % 2 ^ 24 → a / 2 ^ 24 * 2 ^ 32 + b ≡ c / 2 ^ 24 * 2 ^ 32 + d → (a ≡ c) × (b ≡ d)
run-words a b c d small little len addr = (omega arith, omega arith)

pub pxd-same : (at : ℕ) (one other : List ℕ) → AreBytes one → AreBytes other → pxd_of one at ≡ pxd_of other at → SameAt one other at 8
pxd-same at one other bytes others same k past near =
    let words = run-words (field_of one at 4) (field_of one (at + 4) 4) (field_of other at 4) (field_of other (at + 4) 4) (word-below one (at + 4) bytes) (word-below other (at + 4) others) (ap (λ (p : Pxd). p.len) same) (ap (λ (p : Pxd). p.addr) same) in
    elim (cases_lt k (at + 4)) [
      | inl h ↦ field-same at 4 one other bytes others words.0 k past h
      | inr h ↦ field-same (at + 4) 4 one other bytes others words.1 k h (omega arith)
    ]
