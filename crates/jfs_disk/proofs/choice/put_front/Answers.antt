use Rattle.std.proofs.Common.{refl}
use Rattle.jfs_disk.proofs.choice.put_front.Goals as goal

pub returns : goal.returns
returns c = rw c.copy_from_slice.ensures.after refl
