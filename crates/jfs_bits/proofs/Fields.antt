-- How a field that is read or written behind `at` shows in the whole page.
use Rattle.std.proofs.Common.{◌≡◌, ◌<◌, ◌+◌, ◌-◌, ◌%◌, ℕ, zero, suc, List, [], ◌∷◌, ◌++◌, length, take, drop, set, refl, arith}
use Rattle.std.proofs.lemmas.List.{take_rest, drop-drop, drop_all, append-nil, length-drop, get_or-drop, set_split}
use borrow.Rule.Slice.PartMut.{put_mid}
use Rattle.byteorder.specs.Endian.{little_from}
use Rattle.jfs_bits.specs.Field.{field_of, put_bytes, range_of}

-- a number read behind `at`
pub little_from-drop : (width i at : ℕ) (bytes : List ℕ) → little_from i width (drop at bytes) ≡ little_from (at + i) width bytes
little_from-drop zero i at bytes = refl
little_from-drop (suc width) i at bytes =
    let byte = get_or-drop at bytes i 0 in
    let rest = little_from-drop width (suc i) at bytes in
    let place : at + suc i ≡ suc (at + i) = omega arith in
    rw (byte, rest, place) refl

pub field_behind : (bytes : List ℕ) (at width : ℕ) → little_from 0 width (take (length bytes - at) (drop at bytes)) ≡ field_of bytes at width
unfolding field_of
field_behind bytes at width =
    let place : at + 0 ≡ at = omega arith in
    rw (take_rest bytes at, little_from-drop width 0 at bytes, place) refl

pub range_between : (bytes : List ℕ) (at width : ℕ) → take (at + width - at) (drop at bytes) ≡ range_of bytes at width
unfolding range_of
range_between bytes at width = let k : at + width - at ≡ width = omega arith in rw k refl

-- bytes written behind `at`, where the rest stays
pub put_behind : (at : ℕ) (new after bytes : List ℕ) → after ≡ new ++ drop (length new) (take (length bytes - at) (drop at bytes)) → put_mid at (length bytes - at) bytes after ≡ put_bytes at new bytes
unfolding put_bytes
put_behind at new after bytes e =
    let past : drop (length bytes - at) (drop at bytes) ≡ [] = drop_all (length bytes - at) (drop at bytes) (omega (arith, length-drop at bytes)) in
    let kept : drop (length new) (drop at bytes) ≡ drop (at + length new) bytes = drop-drop (length new) at bytes in
    rw (e, take_rest bytes at, past, append-nil, kept) refl

pub put_between : (at width : ℕ) (new bytes : List ℕ) → length new ≡ width → put_mid at (at + width - at) bytes new ≡ put_bytes at new bytes
unfolding put_bytes
put_between at width new bytes e =
    let k : at + width - at ≡ length new = omega arith in
    rw (k, drop-drop (length new) at bytes) refl

pub put_one : (at value : ℕ) (bytes : List ℕ) → at < length bytes → value < 256 → set bytes at value ≡ put_bytes at (value % 256 ∷ []) bytes
unfolding put_bytes
put_one at value bytes within small =
    let same : value % 256 ≡ value = omega arith in
    let next : at + 1 ≡ suc at = omega arith in
    rw (set_split bytes at value within, same, next) refl
