-- What is written of an extent's descriptor is read back.
use Rattle.std.proofs.Common.{◌≡◌, ◌≤◌, ◌+◌, ◌*◌, ◌/◌, ◌%◌, ◌^◌, ℕ, inl, List, length, refl, ◌∙◌, arith}
use Rattle.byteorder.specs.Endian.{little_bytes}
use Rattle.jfs_bits.specs.declared.extent.Xad.{Xad}
use Rattle.jfs_bits.specs.declared.extent.Dxd.{Dxd}
use Rattle.jfs_bits.specs.Field.{put_bytes}
use Rattle.jfs_bits.specs.Descriptor.{pxd_bytes}
use Rattle.jfs_bits.specs.Piece.{puts}
use Rattle.jfs_bits.specs.Extent.{xad_of, xad_pieces, FitsXad, dxd_of, dxd_pieces, FitsDxd}
use Rattle.jfs_bits.proofs.Ranges.{length-put_bytes}
use Rattle.jfs_bits.proofs.Words.{field_of-put_same, field_of-put_other}
use Rattle.jfs_bits.proofs.Descriptors.{length-pxd_bytes, pxd_of-put}

pub xad_of-puts : (at : ℕ) (x : Xad) (bytes : List ℕ) → at + 16 ≤ length bytes → FitsXad x → xad_of (puts (xad_pieces at x) bytes) at ≡ x
unfolding puts xad_pieces
xad_of-puts at x bytes h fits =
    let flag = fits.flag in
    let offset = fits.offset in
    let one = put_bytes at (little_bytes 1 x.flag) bytes in
    let two = put_bytes (at + 3) (little_bytes 1 (x.offset / 2 ^ 32)) one in
    let three = put_bytes (at + 4) (little_bytes 4 (x.offset % 2 ^ 32)) two in
    let size1 = length-put_bytes at (little_bytes 1 x.flag) bytes (omega arith) in
    let size2 = length-put_bytes (at + 3) (little_bytes 1 (x.offset / 2 ^ 32)) one (omega (arith, size1)) in
    let size3 = length-put_bytes (at + 4) (little_bytes 4 (x.offset % 2 ^ 32)) two (omega (arith, size1, size2)) in
    let width = length-pxd_bytes x.at in
    let run = pxd_of-put (at + 8) x.at three (omega (arith, size1, size2, size3)) fits.run in
    let low = field_of-put_other (at + 4) 4 (at + 8) (pxd_bytes x.at) three (omega (arith, size1, size2, size3, width)) (inl (omega arith)) ∙ field_of-put_same (at + 4) 4 (x.offset % 2 ^ 32) two refl (omega (arith, size1, size2)) (omega arith) in
    let high = field_of-put_other (at + 3) 1 (at + 8) (pxd_bytes x.at) three (omega (arith, size1, size2, size3, width)) (inl (omega arith)) ∙ field_of-put_other (at + 3) 1 (at + 4) (little_bytes 4 (x.offset % 2 ^ 32)) two (omega (arith, size1, size2)) (inl (omega arith)) ∙ field_of-put_same (at + 3) 1 (x.offset / 2 ^ 32) one refl (omega (arith, size1)) (omega arith) in
    let first = field_of-put_other at 1 (at + 8) (pxd_bytes x.at) three (omega (arith, size1, size2, size3, width)) (inl (omega arith)) ∙ field_of-put_other at 1 (at + 4) (little_bytes 4 (x.offset % 2 ^ 32)) two (omega (arith, size1, size2)) (inl (omega arith)) ∙ field_of-put_other at 1 (at + 3) (little_bytes 1 (x.offset / 2 ^ 32)) one (omega (arith, size1)) (inl (omega arith)) ∙ field_of-put_same at 1 x.flag bytes refl (omega arith) (omega arith) in
    let whole : x.offset / 2 ^ 32 * 2 ^ 32 + x.offset % 2 ^ 32 ≡ x.offset = omega arith in
    rw (first, high, low, whole, run) refl

pub dxd_of-puts : (at : ℕ) (d : Dxd) (bytes : List ℕ) → at + 16 ≤ length bytes → FitsDxd d → dxd_of (puts (dxd_pieces at d) bytes) at ≡ d
unfolding puts dxd_pieces
dxd_of-puts at d bytes h fits =
    let flag = fits.flag in
    let bytes_in = fits.size in
    let one = put_bytes at (little_bytes 1 d.flag) bytes in
    let two = put_bytes (at + 4) (little_bytes 4 d.size) one in
    let size1 = length-put_bytes at (little_bytes 1 d.flag) bytes (omega arith) in
    let size2 = length-put_bytes (at + 4) (little_bytes 4 d.size) one (omega (arith, size1)) in
    let width = length-pxd_bytes d.at in
    let run = pxd_of-put (at + 8) d.at two (omega (arith, size1, size2)) fits.run in
    let size = field_of-put_other (at + 4) 4 (at + 8) (pxd_bytes d.at) two (omega (arith, size1, size2, width)) (inl (omega arith)) ∙ field_of-put_same (at + 4) 4 d.size one refl (omega (arith, size1)) (omega arith) in
    let first = field_of-put_other at 1 (at + 8) (pxd_bytes d.at) two (omega (arith, size1, size2, width)) (inl (omega arith)) ∙ field_of-put_other at 1 (at + 4) (little_bytes 4 d.size) one (omega (arith, size1)) (inl (omega arith)) ∙ field_of-put_same at 1 d.flag bytes refl (omega arith) (omega arith) in
    rw (first, size, run) refl
