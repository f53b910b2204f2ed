-- Ranges of bytes, of a page in which others were put.
use Rattle.std.proofs.Common.{◌≡◌, ◌<◌, ◌≤◌, ◌+◌, ◌-◌, ◌^◌, ℕ, zero, suc, List, [], ◌∷◌, ◌++◌, ◌⊎◌, inl, inr, length, take, drop, refl, sym, ap, ◌∙◌, append_assoc, arith}
use Rattle.std.proofs.lemmas.List.{take_at, drop_at, take-take, take-append-le, take-append-drop, drop-drop, drop-append-le, length-drop, length-take, length-take-le, length-append}
use Rattle.byteorder.specs.Endian.{little_from, little_bytes}
use Rattle.byteorder.specs.Numbers.{little_from-take, little_number-reads_back}
use Rattle.jfs_bits.specs.Field.{field_of, put_bytes, range_of}
use Rattle.jfs_bits.proofs.Fields.{little_from-drop}

pub length-put_bytes : (at : ℕ) (new bytes : List ℕ) → at + length new ≤ length bytes → length (put_bytes at new bytes) ≡ length bytes
unfolding put_bytes
length-put_bytes at new bytes h = simp (length-append, length-take, length-drop) (omega arith)

-- what was put there is read
pub range_of-put_same : (at : ℕ) (new bytes : List ℕ) → at + length new ≤ length bytes → range_of (put_bytes at new bytes) at (length new) ≡ new
unfolding range_of put_bytes
range_of-put_same at new bytes h =
    let rest = drop (at + length new) bytes in
    rw (drop_at (take at bytes) (new ++ rest) at (length-take-le at bytes (omega arith)), take_at new rest (length new) refl) refl

range_of-front : (xs ys : List ℕ) (at width : ℕ) → at + width ≤ length xs → range_of (xs ++ ys) at width ≡ range_of xs at width
unfolding range_of
range_of-front xs ys at width h =
    ap (λ (z : List ℕ). take width z) (drop-append-le at xs ys (omega arith)) ∙ take-append-le width (drop at xs) ys (omega (arith, length-drop at xs))

range_of-back : (xs ys : List ℕ) (at i width : ℕ) → at ≡ length xs + i → range_of (xs ++ ys) at width ≡ range_of ys i width
unfolding range_of
range_of-back xs ys at i width e =
    ap (λ (z : List ℕ). take width z) (ap (λ (n : ℕ). drop n (xs ++ ys)) e ∙ sym (drop-drop i (length xs) (xs ++ ys)) ∙ ap (λ (z : List ℕ). drop i z) (drop_at xs ys (length xs) refl))

-- what lies before or behind what was put is as it was
pub range_of-put_other : (at width place : ℕ) (new bytes : List ℕ) → place + length new ≤ length bytes → (at + width ≤ place) ⊎ (place + length new ≤ at) → range_of (put_bytes place new bytes) at width ≡ range_of bytes at width
unfolding put_bytes
range_of-put_other at width place new bytes h (inl before) =
    let front : at + width ≤ length (take place bytes) = omega (arith, length-take-le place bytes (omega arith)) in
    range_of-front (take place bytes) (new ++ drop (place + length new) bytes) at width front
    ∙ sym (range_of-front (take place bytes) (drop place bytes) at width front)
    ∙ ap (λ (z : List ℕ). range_of z at width) (take-append-drop place bytes)
range_of-put_other at width place new bytes h (inr after) =
    let end = place + length new in
    let i = at - end in
    let one : at ≡ length (take place bytes ++ new) + i = omega (arith, length-append (take place bytes) new, length-take-le place bytes (omega arith)) in
    let two : at ≡ length (take end bytes) + i = omega (arith, length-take-le end bytes h) in
    ap (λ (z : List ℕ). range_of z at width) (sym (append_assoc (take place bytes) new (drop end bytes)))
    ∙ range_of-back (take place bytes ++ new) (drop end bytes) at i width one
    ∙ sym (range_of-back (take end bytes) (drop end bytes) at i width two)
    ∙ ap (λ (z : List ℕ). range_of z at width) (take-append-drop end bytes)

-- a range that begins with a part
pub range_of-start : (bytes : List ℕ) (at width k : ℕ) → k ≤ width → range_of (range_of bytes at width) 0 k ≡ range_of bytes at k
unfolding range_of
range_of-start bytes at width k h = take-take k width (drop at bytes) h

drop-take : (i n : ℕ) (xs : List ℕ) → drop i (take (i + n) xs) ≡ take n (drop i xs)
drop-take zero n xs = let e : 0 + n ≡ n = omega arith in rw e refl
drop-take (suc i) n [] = let e : suc i + n ≡ suc (i + n) = omega arith in rw e (sym (take-nil n))
  where
    take-nil : (n : ℕ) → take n (let e : List ℕ = [] in e) ≡ []
    take-nil zero = refl
    take-nil (suc n) = refl
drop-take (suc i) n (x ∷ xs) = let e : suc i + n ≡ suc (i + n) = omega arith in rw e (drop-take i n xs)

-- a part of a range
pub range_of-within : (bytes : List ℕ) (at width i k : ℕ) → i + k ≤ width → range_of (range_of bytes at width) i k ≡ range_of bytes (at + i) k
unfolding range_of
range_of-within bytes at width i k h =
    let e : width ≡ i + (width - i) = omega arith in
    ap (λ (w : ℕ). take k (drop i (take w (drop at bytes)))) e
    ∙ ap (λ (z : List ℕ). take k z) (drop-take i (width - i) (drop at bytes) ∙ ap (λ (z : List ℕ). take (width - i) z) (drop-drop i at bytes))
    ∙ take-take k (width - i) (drop (at + i) bytes) (omega arith)

-- a number reads its own range alone
pub field_of-range : (bytes : List ℕ) (at width : ℕ) → field_of bytes at width ≡ field_of (range_of bytes at width) 0 width
unfolding field_of range_of
field_of-range bytes at width =
    let place : at + 0 ≡ at = omega arith in
    sym (little_from-take 0 width width (drop at bytes) (omega arith) ∙ little_from-drop width 0 at bytes ∙ ap (λ (n : ℕ). little_from n width bytes) place)

pub field_of-number : (width x : ℕ) (rest : List ℕ) → x < 256 ^ width → field_of (little_bytes width x ++ rest) 0 width ≡ x
unfolding field_of
field_of-number width x rest h = little_number-reads_back width x rest h

-- two neighbors put one after the other
pub put_bytes-put_bytes : (at next : ℕ) (a b bytes : List ℕ) → next ≡ at + length a → next + length b ≤ length bytes → put_bytes next b (put_bytes at a bytes) ≡ put_bytes at (a ++ b) bytes
unfolding put_bytes
put_bytes-put_bytes at next a b bytes e h =
    let front = take at bytes ++ a in
    let rest = drop (at + length a) bytes in
    let whole : take at bytes ++ (a ++ rest) ≡ front ++ rest = sym (append_assoc (take at bytes) a rest) in
    let size : length front ≡ next = omega (arith, length-append (take at bytes) a, length-take-le at bytes (omega arith)) in
    let begin : take next (take at bytes ++ (a ++ rest)) ≡ front = ap (λ (z : List ℕ). take next z) whole ∙ take_at front rest next size in
    let end : drop (next + length b) (take at bytes ++ (a ++ rest)) ≡ drop (at + length (a ++ b)) bytes =
    ap (λ (z : List ℕ). drop (next + length b) z) whole
    ∙ sym (drop-drop (length b) next (front ++ rest))
    ∙ ap (λ (z : List ℕ). drop (length b) z) (drop_at front rest next size)
    ∙ drop-drop (length b) (at + length a) bytes
    ∙ ap (λ (n : ℕ). drop n bytes) (omega (arith, length-append a b)) in
    rw (begin, end) (append_assoc (take at bytes) a (b ++ drop (at + length (a ++ b)) bytes) ∙ ap (λ (z : List ℕ). take at bytes ++ z) (sym (append_assoc a b (drop (at + length (a ++ b)) bytes))))
