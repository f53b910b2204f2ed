use Rattle.jfs_claim.proofs.Looks.{inode_is_told}
use Rattle.jfs_claim.proofs.look.look_for_inode.Goals as goal

pub returns-clause-exactly : goal.returns-clause-exactly
returns-clause-exactly c = (c.pick.result, c.has_four_once_settled.result, c.pick.ensures, c.has_four_once_settled.ensures, c.inode_by.ensures)

pub returns-clause-room : goal.returns-clause-room
returns-clause-room c = inode_is_told c.args.blocks.now c.args.inodes.now c.inode_by.result (returns-clause-exactly c)
