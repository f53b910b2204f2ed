use Rattle.std.proofs.Common.{refl}
use Rattle.jfs_bits.specs.Piece.{puts}
use Rattle.jfs_format.proofs.inodes.put_extent_head.Goals as goal

pub returns : goal.returns
unfolding puts
returns c = rw (c.put_u16-2.ensures.bytes, c.put_u16.ensures.bytes, c.put_u8.ensures.bytes) refl
