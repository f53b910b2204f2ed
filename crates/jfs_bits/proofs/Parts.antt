-- One part of a page replaced: what it then holds, and that the rest stays.
use Rattle.std.proofs.Common.{◌≡◌, ◌<◌, ◌≤◌, ◌+◌, ◌-◌, ◌^◌, ℕ, [], replicate, ◌⊎◌, inl, inr, List, length, take, drop, ◌++◌, append_assoc, refl, sym, ap, ◌∙◌, arith}
use Rattle.jfs_bits.specs.Field.{field_of, put_bytes, range_of}
use Rattle.jfs_bits.proofs.Ranges.{range_of-put_same, range_of-put_other, range_of-within, field_of-range, field_of-number}
use Rattle.byteorder.specs.Endian.{little_bytes}
use Rattle.std.proofs.lemmas.List.{take_at, drop_at, take-append-drop, drop-drop, length-append, length-take, length-take-le, length-drop, append-nil, take-replicate, drop-replicate}

-- the part from `at` on, handed out and given back as `new`
pub part-held : (at width : ℕ) (new bytes : List ℕ) → length new ≡ width → at + width ≤ length bytes → range_of (put_bytes at new bytes) at width ≡ new
part-held at width new bytes size within = rw size at (range_of-put_same at new bytes (omega (arith, size, within)))

pub part-put : (at width : ℕ) (new bytes : List ℕ) → length new ≡ width → at + width ≤ length bytes → put_bytes at new bytes ≡ put_bytes at (range_of (put_bytes at new bytes) at width) bytes
part-put at width new bytes size within = sym (ap (λ (z : List ℕ). put_bytes at z bytes) (part-held at width new bytes size within))

pub length-range_of : (bytes : List ℕ) (at width : ℕ) → at + width ≤ length bytes → length (range_of bytes at width) ≡ width
unfolding range_of
length-range_of bytes at width h = simp (length-take, length-drop) (omega arith)

pub part-is : (bytes : List ℕ) (at width : ℕ) → take width (drop at bytes) ≡ range_of bytes at width
unfolding range_of
part-is bytes at width = refl

-- what lies beside the part stays
pub range-beside : (at width p n : ℕ) (old new : List ℕ) → length old ≡ length new → at + width ≤ length old → new ≡ put_bytes at (range_of new at width) old → (p + n ≤ at) ⊎ (at + width ≤ p) → range_of new p n ≡ range_of old p n
range-beside at width p n old new same within e side =
    let size = length-range_of new at width (omega arith) in
    ap (λ (z : List ℕ). range_of z p n) e
    ∙ range_of-put_other p n at (range_of new at width) old (omega (arith, size, within)) (elim side [ inl a ↦ inl a | inr b ↦ inr (omega (arith, size, b)) ])

pub field-from_range : (a b : List ℕ) (at width : ℕ) → range_of a at width ≡ range_of b at width → field_of a at width ≡ field_of b at width
field-from_range a b at width e = field_of-range a at width ∙ ap (λ (z : List ℕ). field_of z 0 width) e ∙ sym (field_of-range b at width)

-- a number within a part
pub field-in_part : (bytes : List ℕ) (at width i n : ℕ) → i + n ≤ width → field_of (range_of bytes at width) i n ≡ field_of bytes (at + i) n
field-in_part bytes at width i n h =
    field_of-range (range_of bytes at width) i n ∙ ap (λ (z : List ℕ). field_of z 0 n) (range_of-within bytes at width i n h) ∙ sym (field_of-range bytes (at + i) n)

-- a part put where it is
pub part-kept : (at width : ℕ) (bytes : List ℕ) → at + width ≤ length bytes → bytes ≡ put_bytes at (range_of bytes at width) bytes
unfolding put_bytes range_of
part-kept at width bytes h =
    let size : length (take width (drop at bytes)) ≡ width = simp (length-take, length-drop) (omega arith) in
    let rest : take width (drop at bytes) ++ drop (at + width) bytes ≡ drop at bytes = rw (sym (drop-drop width at bytes)) (take-append-drop width (drop at bytes)) in
    rw (size, rest) (sym (take-append-drop at bytes))

-- a part put over a part
put-over : (at : ℕ) (a b bytes : List ℕ) → length a ≡ length b → at + length a ≤ length bytes → put_bytes at b (put_bytes at a bytes) ≡ put_bytes at b bytes
unfolding put_bytes
put-over at a b bytes e h =
    let front = take at bytes in
    let rest = drop (at + length a) bytes in
    let begin : take at (front ++ (a ++ rest)) ≡ front = take_at front (a ++ rest) at (length-take-le at bytes (omega arith)) in
    let size : length (front ++ a) ≡ at + length b = omega (arith, length-append front a, length-take-le at bytes (omega arith)) in
    let end : drop (at + length b) (front ++ (a ++ rest)) ≡ drop (at + length b) bytes =
    ap (λ (z : List ℕ). drop (at + length b) z) (sym (append_assoc front a rest))
    ∙ drop_at (front ++ a) rest (at + length b) size
    ∙ ap (λ (n : ℕ). drop (at + n) bytes) e in
    rw (begin, end) refl

pub part-again : (at width : ℕ) (old mid new : List ℕ) → length old ≡ length mid → length mid ≡ length new → at + width ≤ length old → mid ≡ put_bytes at (range_of mid at width) old → new ≡ put_bytes at (range_of new at width) mid → new ≡ put_bytes at (range_of new at width) old
part-again at width old mid new a b h first second =
    let m = length-range_of mid at width (omega arith) in
    let n = length-range_of new at width (omega arith) in
    second ∙ ap (λ (z : List ℕ). put_bytes at (range_of new at width) z) first ∙ put-over at (range_of mid at width) (range_of new at width) old (m ∙ sym n) (omega (arith, m))

-- a number that a range was put as
pub number-read : (page : List ℕ) (at width x : ℕ) → range_of page at width ≡ little_bytes width x → x < 256 ^ width → field_of page at width ≡ x
number-read page at width x e fits =
    field_of-range page at width ∙ ap (λ (z : List ℕ). field_of z 0 width) e ∙ rw append-nil at (field_of-number width x [] fits)

-- a range of equal bytes
pub range_of-replicate : (n at width value : ℕ) → at + width ≤ n → range_of (replicate n value) at width ≡ replicate width value
unfolding range_of
range_of-replicate n at width value h =
    ap (λ (z : List ℕ). take width z) (drop-replicate at n value) ∙ take-replicate width (n - at) value (omega arith)
