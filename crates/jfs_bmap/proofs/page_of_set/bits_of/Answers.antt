use Rattle.jfs_bmap.proofs.Fresh.{bits-front}
use Rattle.jfs_bmap.proofs.page_of_set.bits_of.Goals as goal

pub returns : goal.returns
returns c i most within aligned words = rw c.copy_from_slice.ensures.after (bits-front c.args.set.now _ c.args.at c.min-n.result i c.requires c.min-n.ensures most within aligned words)
