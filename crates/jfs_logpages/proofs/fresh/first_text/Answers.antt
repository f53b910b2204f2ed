use Rattle.std.proofs.Common.{refl}
use Rattle.jfs_bits.specs.Descriptor.{pxd_bytes}
use Rattle.jfs_bits.specs.Field.{put_bytes}
use Rattle.jfs_bits.specs.Piece.{puts}
use Rattle.jfs_logfmt.specs.Descriptor.{descriptor_pieces}
use Rattle.jfs_logpages.proofs.fresh.first_text.Goals as goal

pub returns-clause-text : goal.returns-clause-text
unfolding puts put_bytes descriptor_pieces pxd_bytes
returns-clause-text c = rw c.put_u16.ensures.bytes refl
