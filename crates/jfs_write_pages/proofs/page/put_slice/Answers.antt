use Rattle.std.proofs.Common.{refl}
use Rattle.jfs_bits.proofs.Fields.{put_between}
use Rattle.jfs_write_pages.proofs.page.put_slice.Goals as goal

pub returns : goal.returns
returns c = rw c.copy_from_slice.ensures.after (put_between c.args.at _ c.args.bytes.now c.args.page.now refl)
