use Rattle.jfs_put_range.proofs.RootRanges.{broken_refuses}
use Rattle.jfs_xtree.specs.Node.{xt_node}
use Rattle.jfs_put_range.proofs.RootNames.{broken_named}
use Rattle.jfs_put_range.proofs.root.put_root.Goals as goal

pub returns-in-Err-clause-refuses : goal.returns-in-Err-clause-refuses
returns-in-Err-clause-refuses g c tells =
    broken_refuses c.args.top.now.form c.args.top.now.blocks (g.V.PageView.image c.args.view.now) c.args.root.now c.args.draft.now.pages.items c.args.stack.now.items c.in-Err.e c.in-Err.ensures.bad

pub returns-in-Err-clause-names : goal.returns-in-Err-clause-names
returns-in-Err-clause-names g c = broken_named (xt_node c.args.top.now.form c.args.top.now.blocks c.args.root.now) c.args.root.now c.in-Err.e c.in-Err.ensures.bad
