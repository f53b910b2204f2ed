use Rattle.std.proofs.Common.{refl}
use Rattle.jfs_bits.specs.Piece.{puts}
use Rattle.jfs_iag.specs.Control.{head_of}
use Rattle.jfs_iag.proofs.control.put_head.Goals as goal

pub returns-clause-bytes : goal.returns-clause-bytes
unfolding puts head_of
returns-clause-bytes c = rw (c.put_u32-8.ensures.bytes, c.put_u32-7.ensures.bytes, c.put_u32-6.ensures.bytes, c.put_u32-5.ensures.bytes, c.put_u32-4.ensures.bytes, c.put_u32-3.ensures.bytes, c.put_u32-2.ensures.bytes, c.put_u32.ensures.bytes) refl

pub returns-clause-fits : goal.returns-clause-fits
returns-clause-fits c = record { freeiag = c.put_u32.ensures.fits; nextiag = c.put_u32-2.ensures.fits; numinos = c.put_u32-3.ensures.fits; numfree = c.put_u32-4.ensures.fits; nbperiext = c.put_u32-5.ensures.fits; l2nbperiext = c.put_u32-6.ensures.fits; diskblock = c.put_u32-7.ensures.fits; maxag = c.put_u32-8.ensures.fits }
