use Rattle.std.proofs.Common.{◌∙◌, ap, sym, length, refl, List, ℕ, arith}
use Rattle.jfs_bits.specs.Piece.{puts}
use Rattle.jfs_super.specs.Super.{super_of, pieces}
use Rattle.jfs_super.proofs.ReadBack.{InRange, super_of-puts}
use Rattle.jfs_super.proofs.write.write_super.Goals as goal

in_range : (c : goal.After-put_array-4) → InRange c.args.s.now
in_range c = record { magic = omega arith; version = omega arith; size = omega arith; bsize = omega arith; l2bsize = omega arith; l2bfactor = omega arith; pbsize = omega arith; l2pbsize = omega arith; agsize = omega arith; flag = omega arith; state = omega arith; compress = omega arith; logdev = omega arith; logserial = omega arith; sec = omega arith; nano = omega arith; fsckloglen = omega arith; fscklog = omega arith; fpack = omega arith; xsize = omega arith; uuid = ap (λ (z : List ℕ). length z) (sym c.as_bytes.ensures) ∙ c.put_array-2.ensures.fits; label = omega arith; loguuid = ap (λ (z : List ℕ). length z) (sym c.as_bytes-2.ensures) ∙ c.put_array-4.ensures.fits }

bytes_are : goal.returns-clause-bytes
unfolding pieces puts
bytes_are c =
    rw (c.put_array-4.ensures.bytes, c.as_bytes-2.ensures, c.put_array-3.ensures.bytes, c.put_array-2.ensures.bytes, c.as_bytes.ensures, c.put_pxd-6.ensures.bytes, c.put_pxd-5.ensures.bytes, c.put_u64-2.ensures.bytes, c.put_array.ensures.bytes, c.put_u8.ensures.bytes, c.put_u32-11.ensures.bytes, c.put_moment.ensures.bytes, c.put_pxd-4.ensures.bytes, c.put_pxd-3.ensures.bytes, c.put_u32-10.ensures.bytes, c.put_u32-9.ensures.bytes, c.put_pxd-2.ensures.bytes, c.put_pxd.ensures.bytes, c.put_u32-8.ensures.bytes, c.put_u32-7.ensures.bytes, c.put_u32-6.ensures.bytes, c.put_u32-5.ensures.bytes, c.put_u16-3.ensures.bytes, c.put_u32-4.ensures.bytes, c.put_u16-2.ensures.bytes, c.put_u16.ensures.bytes, c.put_u32-3.ensures.bytes, c.put_u64.ensures.bytes, c.put_u32-2.ensures.bytes, c.put_u32.ensures.bytes) refl

pub returns-clause-bytes : goal.returns-clause-bytes
returns-clause-bytes c = bytes_are c

pub returns-clause-read_back : goal.returns-clause-read_back
returns-clause-read_back c =
    ap super_of (bytes_are c) ∙ super_of-puts c.args.s.now c.args.page.now.0 (in_range c) c.requires (omega arith)
