-- A page that is filled with a piece of the group.
use Rattle.std.proofs.Common.{◌≡◌, ◌≤◌, ◌<◌, ◌+◌, ◌-◌, ◌*◌, ◌^◌, ℕ, suc, List, [], ◌∷◌, ◌++◌, length, take, drop, get_or, set, replicate, ◌%◌, refl, sym, ap, subst, ◌∙◌, ◌⊎◌, inl, inr, arith}
use Rattle.std.proofs.lemmas.Bool.{cases_lt, cases_eq, lt-leb, le-leb}
use Rattle.std.proofs.lemmas.List.{length-append, length-take-le, get_or_append_left, get_or-append-add, get_or-take, get_or-drop, take-append-drop, get_or-replicate, length-replicate, get_or-set_same, get_or-set_other}
use Rattle.std.proofs.Math.Nat.{mod-lt, mod-eq_of_lt}
use Rattle.jfs_disk.specs.Image.{Image, page_of}
use Rattle.jfs_bits.specs.Field.{field_of, put_bytes}
use Rattle.jfs_bits.specs.Piece.{puts}
use Rattle.jfs_bits.proofs.Ranges.{length-put_bytes}
use Rattle.jfs_bits.proofs.Pieces.{AreLaidOut, length-puts, range_of-puts_other, field_of-puts}
use Rattle.jfs_logpages.specs.Ring.{ring_pieces, eor_at, ends_with, IsWritten, IsNumbered, IsLast, IsRing, last_end, fresh_text, fresh_ends}
use Rattle.jfs_logpages.specs.Fresh.{OthersStay}
use Rattle.jfs_logpages.proofs.TextRead.{byte-body}

put-before : (at j : ℕ) (new bytes : List ℕ) → at ≤ length bytes → j < at → get_or (put_bytes at new bytes) j 0 ≡ get_or bytes j 0
unfolding put_bytes
put-before at j new bytes fits h =
    get_or_append_left (take at bytes) (new ++ drop (at + length new) bytes) 0 j (omega (arith, length-take-le at bytes fits)) ∙ get_or-take at bytes j 0 h

put-inside : (at i : ℕ) (new bytes : List ℕ) → at ≤ length bytes → i < length new → get_or (put_bytes at new bytes) (at + i) 0 ≡ get_or new i 0
unfolding put_bytes
put-inside at i new bytes fits h =
    let size = length-take-le at bytes fits in
    ap (λ (n : ℕ). get_or (take at bytes ++ (new ++ drop (at + length new) bytes)) (n + i) 0) (sym size)
    ∙ get_or-append-add (take at bytes) (new ++ drop (at + length new) bytes) i 0
    ∙ get_or_append_left new (drop (at + length new) bytes) 0 i h

laid_out : (number eor size : ℕ) → size ≡ 4096 → AreLaidOut (ring_pieces number eor) size
unfolding ring_pieces
laid_out number eor size e = record {
  places = (0, 4) ∷ (6, 2) ∷ (4088, 4) ∷ (4094, 2) ∷ [];
  placed = (refl, refl, (refl, refl, (refl, refl, (refl, refl, tt))));
  within = rw e refl;
  apart = refl;
}

-- header, trailer and body of a page that was put
pub record IsPut (q eor : ℕ) (base page : List ℕ) : Type 0 where
  pub size : length page ≡ 4096
  pub number : IsNumbered q page
  pub head_eor : field_of page 6 2 ≡ eor
  pub tail_eor : field_of page 4094 2 ≡ eor
  pub body : (i : ℕ) → i < 4080 → get_or page (8 + i) 0 ≡ get_or base (8 + i) 0

pub put-page : (q eor : ℕ) (base : List ℕ) → length base ≡ 4096 → q < 2 ^ 32 → eor < 2 ^ 16 → IsPut q eor base (puts (ring_pieces q eor) base)
unfolding ring_pieces laid_out
put-page q eor base long small short = record {
  size = length-puts (ring_pieces q eor) laid.places base laid.placed laid.within ∙ long;
  number = (field_of-puts (ring_pieces q eor) base 0 0 4 q laid (refl, refl) small, field_of-puts (ring_pieces q eor) base 2 4088 4 q laid (refl, refl) small);
  head_eor = field_of-puts (ring_pieces q eor) base 1 6 2 eor laid (refl, refl) short;
  tail_eor = field_of-puts (ring_pieces q eor) base 3 4094 2 eor laid (refl, refl) short;
  body = λ i h. sym (byte-body (puts (ring_pieces q eor) base) i h)
      ∙ ap (λ (bytes : List ℕ). get_or bytes i 0) (range_of-puts_other (ring_pieces q eor) laid.places base 8 4080 laid.placed laid.within refl)
      ∙ byte-body base i h;
}
  where
    laid : AreLaidOut (ring_pieces q eor) (length base)
    laid = laid_out q eor (length base) long

pub filled : (text group ends group_ends : List ℕ) (q at from eor : ℕ) (piece old : List ℕ) → length old ≡ 4096 → at + length piece ≤ 4080 → 4080 * q + at ≡ length text + from
    → ((i : ℕ) → i < length piece → get_or piece i 0 ≡ get_or group (from + i) 0)
    → (at + length piece ≡ 4080) ⊎ (from + length piece ≡ length group)
    → ((i : ℕ) → i < at → (4080 * q + i < length text) × (get_or old (8 + i) 0 ≡ get_or text (4080 * q + i) 0))
    → q < 2 ^ 32 → eor < 2 ^ 16 → eor ≡ eor_at (ends_with (length text) ends group_ends) q
    → IsWritten (text ++ group) (ends_with (length text) ends group_ends) q (puts (ring_pieces q eor) (put_bytes (8 + at) piece old))
filled text group ends group_ends q at from eor piece old size fits place same full front small short e = record {
  size = put.size;
  number = put.number;
  head_eor = put.head_eor ∙ e;
  tail_eor = put.tail_eor ∙ e;
  begins = λ i h g. put.body i h ∙ byte i h (omega (arith, g, length-append text group)) (cases_lt i at);
}
  where
    page : List ℕ
    page = put_bytes (8 + at) piece old

    put : IsPut q eor page (puts (ring_pieces q eor) page)
    put = put-page q eor page (length-put_bytes (8 + at) piece old (omega arith) ∙ size) small short

    byte : (i : ℕ) → i < 4080 → 4080 * q + i < length text + length group → (i < at) ⊎ (at ≤ i) → get_or page (8 + i) 0 ≡ get_or (text ++ group) (4080 * q + i) 0
    byte i h g (inl low) =
        put-before (8 + at) (8 + i) piece old (omega arith) (omega arith) ∙ (front i low).1 ∙ sym (get_or_append_left text group 0 (4080 * q + i) (front i low).0)
    byte i h g (inr high) =
        let j = i - at in
        ap (λ (n : ℕ). get_or page n 0) (omega arith)
        ∙ put-inside (8 + at) j piece old (omega arith) (omega (arith, full))
        ∙ same j (omega (arith, full))
        ∙ sym (get_or-append-add text group (from + j) 0)
        ∙ ap (λ (n : ℕ). get_or (text ++ group) n 0) (omega arith)

-- ---- a fresh ring

-- a body of zeros
abbrev pub IsBlank : List ℕ → Type 0
IsBlank page = (length page ≡ 4096) × ((i : ℕ) → i < 4080 → get_or page (8 + i) 0 ≡ 0)

blank-base : (old : List ℕ) → length old ≡ 4096 → put_bytes 8 [] old ≡ old
unfolding put_bytes
blank-base old size = take-append-drop 8 old

pub blank-put : (q : ℕ) (old page : List ℕ) → IsBlank old → q < 2 ^ 32 → page ≡ puts (ring_pieces q 8) (put_bytes (8 + 0) [] old) → IsBlank page
blank-put q old page blank small e =
    let put = put-page q 8 old blank.0 small (omega arith) in
    let same : page ≡ puts (ring_pieces q 8) old = e ∙ ap (λ (bytes : List ℕ). puts (ring_pieces q 8) bytes) (blank-base old blank.0) in
    rw same (put.size, λ i h. put.body i h ∙ blank.1 i h)

fresh-eor : (ring k : ℕ) → suc k < ring → eor_at (fresh_ends ring) k ≡ 8
fresh-eor ring k h = rw (lt-leb (4080 * (ring - 1) + 36) (4080 * suc k) (omega arith)) (omega arith)

pub blank-written : (ring q : ℕ) (bytes old page : List ℕ) → suc q < ring → q < 2 ^ 32 → IsBlank old → page ≡ puts (ring_pieces q 8) (put_bytes (8 + 0) [] old) → IsWritten (fresh_text ring bytes) (fresh_ends ring) q page
blank-written ring q bytes old page h small blank e =
    let put = put-page q 8 old blank.0 small (omega arith) in
    let same : page ≡ puts (ring_pieces q 8) old = e ∙ ap (λ (b : List ℕ). puts (ring_pieces q 8) b) (blank-base old blank.0) in
    let eor = fresh-eor ring q h in
    rw same (record {
      size = put.size;
      number = put.number;
      head_eor = put.head_eor ∙ sym eor;
      tail_eor = put.tail_eor ∙ sym eor;
      begins = λ i g m. put.body i g ∙ blank.1 i g
          ∙ sym (get_or_append_left (replicate (4080 * (ring - 1)) 0) bytes 0 (4080 * q + i) (omega (arith, length-replicate {A = ℕ} (4080 * (ring - 1)) 0)) ∙ get_or-replicate (4080 * (ring - 1)) (4080 * q + i) 0 0 (omega arith));
    })

pub fresh-last : (ring : ℕ) (bytes old page : List ℕ) → 2 ≤ ring → ring < 2 ^ 16 → length bytes ≡ 36 → IsBlank old → page ≡ puts (ring_pieces (ring - 1) 44) (put_bytes (8 + 0) bytes old) → IsWritten (fresh_text ring bytes) (fresh_ends ring) (ring - 1) page
fresh-last ring bytes old page some small size blank e =
    let zeros : List ℕ = replicate (4080 * (ring - 1)) 0 in
    let long : length zeros ≡ 4080 * (ring - 1) = length-replicate {A = ℕ} (4080 * (ring - 1)) 0 in
    let end : last_end (fresh_ends ring) (4080 * suc (ring - 1)) ≡ 4080 * (ring - 1) + 36 = rw (le-leb (4080 * (ring - 1) + 36) (4080 * suc (ring - 1)) (omega arith)) (omega arith) in
    let ends : ends_with (length zeros) [] (36 ∷ []) ≡ fresh_ends ring = ap (λ (n : ℕ). let one : List ℕ = (n + 36) ∷ [] in one) long in
    let eor : 44 ≡ eor_at (ends_with (length zeros) [] (36 ∷ [])) (ring - 1) =
    (let plain : 44 ≡ eor_at (fresh_ends ring) (ring - 1) = omega (arith, end) in plain ∙ ap (λ (es : List ℕ). eor_at es (ring - 1)) (sym ends)) in
    rw e (subst (λ (es : List ℕ). IsWritten (zeros ++ bytes) es (ring - 1) (puts (ring_pieces (ring - 1) 44) (put_bytes (8 + 0) bytes old))) ends
    (filled zeros bytes [] (36 ∷ []) (ring - 1) 0 0 44 bytes old blank.0 (omega arith) (omega arith) (λ i h. ap (λ (n : ℕ). get_or bytes n 0) (omega arith)) (inr (omega arith)) (λ i h. absurd (omega arith)) (omega arith) (omega arith) eor))

pub fresh-is-last : (ring : ℕ) (bytes page : List ℕ) → 2 ≤ ring → length bytes ≡ 36 → IsWritten (fresh_text ring bytes) (fresh_ends ring) (ring - 1) page → IsLast ring (ring - 1) 36 page (fresh_text ring bytes) (fresh_ends ring)
fresh-is-last ring bytes page some size w =
    let long : length (fresh_text ring bytes) ≡ 4080 * (ring - 1) + 36 = omega (arith, length-append (replicate (4080 * (ring - 1)) 0) bytes, length-replicate {A = ℕ} (4080 * (ring - 1)) 0) in
    record { size = long; ended = (omega arith, sym long); long = omega arith; starts = omega arith; stops = omega arith; page = w }

pub fresh-is-ring : (ring : ℕ) (text ends : List ℕ) (image : Image) → 2 ≤ ring → ((k : ℕ) → k < ring → IsWritten text ends k (page_of image (2 + k))) → IsRing ring text ends (ring - 1) image
fresh-is-ring ring text ends image some pages = record {
  each = λ k h g.
      let here : k % ring ≡ k = mod-eq_of_lt (omega arith) in
      rw here (pages k (omega arith));
  none = λ k h e.
      let less = mod-lt k {m = ring} (omega arith) in
      omega (arith, e, less, (pages (k % ring) less).number.1);
}

pub put-more : (text ends : List ℕ) (image new : Image) (page : List ℕ) (at q : ℕ) → at + q < length image → new ≡ set image (at + q) page → IsWritten text ends q page → ((k : ℕ) → k < q → IsWritten text ends k (page_of image (at + k)))
    → (k : ℕ) → k < q + 1 → IsWritten text ends k (page_of new (at + k))
put-more text ends image new page at q there e w before k h = by (cases_eq k q)
  where
    by : (k ≡ q) ⊎ (k ≡ q → ⊥) → IsWritten text ends k (page_of new (at + k))
    by (inl same) = rw (e, same, get_or-set_same image (at + q) page [] there) w
    by (inr other) = rw (e, get_or-set_other image (at + q) (at + k) page [] (λ f. other (omega arith))) (before k (omega arith))

-- a page of a log that begins at page `base`
pub page_of-log : (base k : ℕ) (image : Image) → page_of (drop base image) (2 + k) ≡ page_of image (base + 2 + k)
page_of-log base k image = get_or-drop base image (2 + k) [] ∙ ap (λ (n : ℕ). page_of image n) (omega arith)

pub others-put : (first count n : ℕ) (old mid new : Image) (page : List ℕ) → first ≤ n → n < first + count → new ≡ set mid n page → OthersStay first count old mid → OthersStay first count old new
others-put first count n old mid new page l u e stay k (inl low) = ap (λ (im : Image). page_of im k) e ∙ get_or-set_other mid n k page [] (λ f. omega (arith, f)) ∙ stay k (inl low)
others-put first count n old mid new page l u e stay k (inr high) = ap (λ (im : Image). page_of im k) e ∙ get_or-set_other mid n k page [] (λ f. omega (arith, f)) ∙ stay k (inr high)
