use Rattle.std.proofs.Common.{refl}
use Rattle.jfs_bits.specs.Piece.{puts}
use Rattle.jfs_dmapctl.specs.Control.{head_of}
use Rattle.jfs_dmapctl.proofs.page.put_head.Goals as goal

pub returns : goal.returns
unfolding puts head_of
returns c = rw (c.put_u8.ensures.bytes, c.put_u32-4.ensures.bytes, c.put_u32-3.ensures.bytes, c.put_u32-2.ensures.bytes, c.put_u32.ensures.bytes) refl
