use Rattle.jfs_buddy.proofs.Parts.{part-is}
use Rattle.jfs_dmap.proofs.read.dmap_is_taken.Goals as goal

pub returns : goal.returns
returns c = rw (part-is c.args.page.now.0 2048 1024) at c.bit.ensures
