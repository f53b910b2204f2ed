use Rattle.std.proofs.Common.{refl}
use Rattle.jfs_bits.specs.Piece.{puts}
use Rattle.jfs_iag.specs.Control.{group_pieces}
use Rattle.jfs_iag.proofs.control.put_group.Goals as goal

pub returns-clause-bytes : goal.returns-clause-bytes
unfolding puts group_pieces
returns-clause-bytes c = rw (c.put_u32-4.ensures.bytes, c.put_u32-3.ensures.bytes, c.put_u32-2.ensures.bytes, c.put_u32.ensures.bytes) refl

pub returns-clause-fits : goal.returns-clause-fits
returns-clause-fits c = record { inofree = c.put_u32.ensures.fits; extfree = c.put_u32-2.ensures.fits; numinos = c.put_u32-3.ensures.fits; numfree = c.put_u32-4.ensures.fits }
