use Rattle.std.proofs.Common.{refl}
use Rattle.jfs_bits.specs.Field.{put_bytes}
use Rattle.jfs_bits.specs.Descriptor.{pxd_bytes}
use Rattle.jfs_logfmt.proofs.writing.run_text.Goals as goal

pub returns : goal.returns
unfolding put_bytes pxd_bytes
returns c = rw c.put_pxd.ensures.bytes refl
