use Rattle.jfs_dtree.proofs.Nodes.{leaf_is}
use Rattle.jfs_dtree.proofs.loss.DtPagesPageLoss.remove.Goals as goal

pub take_name-requires-clause-page : goal.take_name-requires-clause-page
take_name-requires-clause-page c = (leaf_is c.args.self.now.form c.args.self.now.blocks c.args.bytes.now c.requires.leaf.0 c.requires.leaf.1).0

pub take_name-requires-clause-leaf : goal.take_name-requires-clause-leaf
take_name-requires-clause-leaf c = (leaf_is c.args.self.now.form c.args.self.now.blocks c.args.bytes.now c.requires.leaf.0 c.requires.leaf.1).1

pub returns-clause-takes : goal.returns-clause-takes
returns-clause-takes c = c.take_name.ensures.takes c.args.self.now.blocks
