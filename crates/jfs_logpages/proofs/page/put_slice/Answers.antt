use Rattle.std.proofs.Common.{refl}
use Rattle.jfs_bits.proofs.Fields.{put_between}
use Rattle.jfs_logpages.proofs.page.put_slice.Goals as goal

pub returns : goal.returns
returns c = record { bytes = rw c.copy_from_slice.ensures.after (put_between c.args.at _ c.args.piece.now c.args.bytes.now refl) }
