use Rattle.std.proofs.Common.{length, refl}
use Rattle.jfs_bits.proofs.Fields.{put_between}
use Rattle.jfs_create.proofs.new.put_target.Goals as goal

pub returns : goal.returns
returns c = rw c.copy_from_slice.ensures.after (put_between 128 (length c.args.target.now) c.args.target.now c.args.rest.now refl)
