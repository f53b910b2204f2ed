use Rattle.std.proofs.Common.{refl}
use Rattle.jfs_bits.specs.Piece.{puts}
use Rattle.jfs_logpages.specs.Ring.{ring_pieces}
use Rattle.jfs_logpages.proofs.page.put_page.Goals as goal

pub returns-clause-bytes : goal.returns-clause-bytes
unfolding puts ring_pieces
returns-clause-bytes c = rw (c.put_u16-2.ensures.bytes, c.put_u32-2.ensures.bytes, c.put_u16.ensures.bytes, c.put_u32.ensures.bytes, c.put_slice.ensures.bytes) refl
