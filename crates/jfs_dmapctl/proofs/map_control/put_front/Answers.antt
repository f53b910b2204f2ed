use Rattle.std.proofs.Common.{refl}
use Rattle.jfs_bits.specs.Piece.{puts}
use Rattle.jfs_dmapctl.specs.MapControl.{front_of}
use Rattle.jfs_dmapctl.proofs.map_control.put_front.Goals as goal

pub returns-clause-bytes : goal.returns-clause-bytes
unfolding puts front_of
returns-clause-bytes c = rw (c.put_u32-10.ensures.bytes, c.put_u32-9.ensures.bytes, c.put_u32-8.ensures.bytes, c.put_u32-7.ensures.bytes, c.put_u32-6.ensures.bytes, c.put_u32-5.ensures.bytes, c.put_u32-4.ensures.bytes, c.put_u32-3.ensures.bytes, c.put_u32-2.ensures.bytes, c.put_u32.ensures.bytes, c.put_u64-2.ensures.bytes, c.put_u64.ensures.bytes) refl

pub returns-clause-fits : goal.returns-clause-fits
returns-clause-fits c = record {
  mapsize = c.put_u64.ensures.fits;
  nfree = c.put_u64-2.ensures.fits;
  l2nbperpage = c.put_u32.ensures.fits;
  numag = c.put_u32-2.ensures.fits;
  maxlevel = c.put_u32-3.ensures.fits;
  maxag = c.put_u32-4.ensures.fits;
  agpref = c.put_u32-5.ensures.fits;
  aglevel = c.put_u32-6.ensures.fits;
  agheight = c.put_u32-7.ensures.fits;
  agwidth = c.put_u32-8.ensures.fits;
  agstart = c.put_u32-9.ensures.fits;
  agl2size = c.put_u32-10.ensures.fits;
}
