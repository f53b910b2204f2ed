-- Descriptors read their own range alone, and what is written of one is read back.
use Rattle.std.proofs.Common.{◌≡◌, ◌<◌, ◌≤◌, ◌+◌, ◌*◌, ◌/◌, ◌%◌, ◌^◌, ℕ, List, [], ◌++◌, length, refl, sym, ap, ◌∙◌, arith}
use Rattle.byteorder.specs.Endian.{little_bytes}
use Rattle.jfs_bits.specs.declared.descriptor.Pxd.{Pxd}
use Rattle.jfs_bits.specs.declared.descriptor.Moment.{Moment}
use Rattle.jfs_bits.specs.Field.{field_of, put_bytes, range_of}
use Rattle.jfs_bits.specs.Descriptor.{pxd_of, pxd_bytes, FitsPxd, moment_of, moment_bytes}
use Rattle.jfs_bits.proofs.Ranges.{range_of-start, range_of-within, range_of-put_same, field_of-range, field_of-number}

-- the two words of 8 bytes
pub words_of-range : (bytes : List ℕ) (at : ℕ) → (field_of bytes at 4 ≡ field_of (range_of bytes at 8) 0 4) × (field_of bytes (at + 4) 4 ≡ field_of (range_of bytes at 8) 4 4)
words_of-range bytes at = (
  field_of-range bytes at 4 ∙ sym (field_of-range (range_of bytes at 8) 0 4 ∙ ap (λ (z : List ℕ). field_of z 0 4) (range_of-start bytes at 8 4 (omega arith))),
  field_of-range bytes (at + 4) 4 ∙ sym (field_of-range (range_of bytes at 8) 4 4 ∙ ap (λ (z : List ℕ). field_of z 0 4) (range_of-within bytes at 8 4 4 (omega arith))),
)

pub words_of-bytes : (first second : ℕ) → first < 2 ^ 32 → second < 2 ^ 32 → (field_of (little_bytes 4 first ++ little_bytes 4 second) 0 4 ≡ first) × (field_of (little_bytes 4 first ++ little_bytes 4 second) 4 4 ≡ second)
unfolding range_of
words_of-bytes first second h k = (
  field_of-number 4 first (little_bytes 4 second) h,
  field_of-range (little_bytes 4 first ++ little_bytes 4 second) 4 4 ∙ field_of-number 4 second [] k,
)

pub pxd_of-range : (bytes : List ℕ) (at : ℕ) → pxd_of bytes at ≡ pxd_of (range_of bytes at 8) 0
pxd_of-range bytes at = let w = words_of-range bytes at in rw (w.0, w.1) refl

pub pxd_of-bytes : (p : Pxd) → FitsPxd p → pxd_of (pxd_bytes p) 0 ≡ p
unfolding pxd_bytes
pxd_of-bytes p fits =
    let h = fits.len in
    let k = fits.addr in
    let high : p.addr / 2 ^ 32 < 256 = omega arith in
    let w = words_of-bytes (p.len + p.addr / 2 ^ 32 * 2 ^ 24) (p.addr % 2 ^ 32) (omega arith) (omega arith) in
    let len : (p.len + p.addr / 2 ^ 32 * 2 ^ 24) % 2 ^ 24 ≡ p.len = omega arith in
    let addr : (p.len + p.addr / 2 ^ 32 * 2 ^ 24) / 2 ^ 24 * 2 ^ 32 + p.addr % 2 ^ 32 ≡ p.addr = omega arith in
    rw (w.0, w.1, len, addr) refl

pub length-pxd_bytes : (p : Pxd) → length (pxd_bytes p) ≡ 8
unfolding pxd_bytes
length-pxd_bytes p = refl

pub pxd_of-put : (at : ℕ) (p : Pxd) (bytes : List ℕ) → at + 8 ≤ length bytes → FitsPxd p → pxd_of (put_bytes at (pxd_bytes p) bytes) at ≡ p
unfolding pxd_bytes
pxd_of-put at p bytes h fits =
    pxd_of-range (put_bytes at (pxd_bytes p) bytes) at ∙ ap (λ (z : List ℕ). pxd_of z 0) (range_of-put_same at (pxd_bytes p) bytes h) ∙ pxd_of-bytes p fits

pub moment_of-range : (bytes : List ℕ) (at : ℕ) → moment_of bytes at ≡ moment_of (range_of bytes at 8) 0
moment_of-range bytes at = let w = words_of-range bytes at in rw (w.0, w.1) refl

pub moment_of-bytes : (m : Moment) → m.sec < 2 ^ 32 → m.nano < 2 ^ 32 → moment_of (moment_bytes m) 0 ≡ m
unfolding moment_bytes
moment_of-bytes m h k = let w = words_of-bytes m.sec m.nano h k in rw (w.0, w.1) refl

pub length-moment_bytes : (m : Moment) → length (moment_bytes m) ≡ 8
unfolding moment_bytes
length-moment_bytes m = refl

pub moment_of-put : (at : ℕ) (m : Moment) (bytes : List ℕ) → at + 8 ≤ length bytes → m.sec < 2 ^ 32 → m.nano < 2 ^ 32 → moment_of (put_bytes at (moment_bytes m) bytes) at ≡ m
unfolding moment_bytes
moment_of-put at m bytes h s n =
    moment_of-range (put_bytes at (moment_bytes m) bytes) at ∙ ap (λ (z : List ℕ). moment_of z 0) (range_of-put_same at (moment_bytes m) bytes h) ∙ moment_of-bytes m s n
