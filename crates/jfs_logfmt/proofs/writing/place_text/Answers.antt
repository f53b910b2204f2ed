use Rattle.std.proofs.Common.{refl}
use Rattle.jfs_bits.specs.Field.{put_bytes}
use Rattle.jfs_logfmt.proofs.writing.place_text.Goals as goal

pub returns : goal.returns
unfolding put_bytes
returns c = rw (c.put_u16-2.ensures.bytes, c.put_u16.ensures.bytes) refl
