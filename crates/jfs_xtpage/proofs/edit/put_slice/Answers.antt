use Rattle.std.proofs.Common.{refl}
use Rattle.jfs_bits.proofs.Fields.{put_between}
use Rattle.jfs_xtpage.proofs.edit.put_slice.Goals as goal

pub returns : goal.returns
returns c = rw c.copy_from_slice.ensures.after (put_between c.args.from _ c.args.piece.now c.args.bytes.now refl)
