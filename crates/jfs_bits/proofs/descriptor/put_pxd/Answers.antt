use Rattle.std.proofs.Common.{◌+◌, ◌*◌, ◌/◌, ◌%◌, ◌^◌, ◌∙◌, ap, refl, List, ℕ, arith}
use Rattle.byteorder.specs.Endian.{little_bytes}
use Rattle.jfs_bits.specs.Descriptor.{pxd_of, pxd_bytes}
use Rattle.jfs_bits.proofs.Ranges.{put_bytes-put_bytes}
use Rattle.jfs_bits.proofs.Descriptors.{pxd_of-put}
use Rattle.jfs_bits.proofs.descriptor.put_pxd.Goals as goal

bytes_are : goal.returns-clause-bytes
unfolding pxd_bytes
bytes_are c =
    let first = c.args.v.len + c.args.v.addr / 2 ^ 32 * 2 ^ 24 in
    rw (c.put_u32-2.ensures.bytes, c.put_u32.ensures.bytes) (put_bytes-put_bytes c.args.at (c.args.at + 4) (little_bytes 4 first) (little_bytes 4 (c.args.v.addr % 2 ^ 32)) c.args.bytes.now refl (omega (arith, c.requires.within)))

pub returns-clause-bytes : goal.returns-clause-bytes
returns-clause-bytes c = bytes_are c

pub returns-clause-read_back : goal.returns-clause-read_back
returns-clause-read_back c =
    ap (λ (z : List ℕ). pxd_of z c.args.at) (bytes_are c) ∙ pxd_of-put c.args.at c.args.v c.args.bytes.now c.requires.within c.requires.fits
