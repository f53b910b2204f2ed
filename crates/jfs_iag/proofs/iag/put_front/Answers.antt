use Rattle.std.proofs.Common.{refl}
use Rattle.jfs_bits.specs.Piece.{puts}
use Rattle.jfs_iag.specs.Iag.{front_of}
use Rattle.jfs_iag.proofs.iag.put_front.Goals as goal

pub returns-clause-bytes : goal.returns-clause-bytes
unfolding puts front_of
returns-clause-bytes c = rw (c.put_array-4.ensures.bytes, c.put_array-3.ensures.bytes, c.put_u32-8.ensures.bytes, c.put_u32-7.ensures.bytes, c.put_array-2.ensures.bytes, c.put_array.ensures.bytes, c.put_u32-6.ensures.bytes, c.put_u32-5.ensures.bytes, c.put_u32-4.ensures.bytes, c.put_u32-3.ensures.bytes, c.put_u32-2.ensures.bytes, c.put_u32.ensures.bytes, c.put_u64.ensures.bytes) refl

pub returns-clause-fits : goal.returns-clause-fits
returns-clause-fits c = record { agstart = c.put_u64.ensures.fits; iagnum = c.put_u32.ensures.fits; inofreefwd = c.put_u32-2.ensures.fits; inofreeback = c.put_u32-3.ensures.fits; extfreefwd = c.put_u32-4.ensures.fits; extfreeback = c.put_u32-5.ensures.fits; iagfree = c.put_u32-6.ensures.fits; inosmap = c.put_array.ensures.fits; extsmap = c.put_array-2.ensures.fits; nfreeinos = c.put_u32-7.ensures.fits; nfreeexts = c.put_u32-8.ensures.fits; wmap = c.put_array-3.ensures.fits; pmap = c.put_array-4.ensures.fits }
