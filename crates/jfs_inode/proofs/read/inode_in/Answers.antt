use Rattle.std.proofs.Common.{◌*◌, ◌∙◌, ap}
use Rattle.jfs_bits.proofs.Fields.{range_between}
use Rattle.jfs_inode.specs.Inode.{dinode_of}
use Rattle.jfs_inode.proofs.read.inode_in.Goals as goal

pub returns-clause-value : goal.returns-clause-value
returns-clause-value c = c.spelled.ensures.value ∙ ap dinode_of (range_between c.args.page.now.0 (512 * c.args.slot) 512)
