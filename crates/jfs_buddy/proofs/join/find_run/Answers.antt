use Rattle.jfs_buddy.proofs.Finds.{lowest-run}
use Rattle.jfs_buddy.proofs.join.find_run.Goals as goal

pub returns : goal.returns
returns c own t = lowest-run c.args.height c.args.whole c.args.rank own c.args.tree.now c.find_leaf.result c.requires.some c.requires.whole c.requires.most t c.find_leaf.ensures
