-- What the walk met, with the blocks and the root that it was given.
use Rattle.std.proofs.Common.{sym, ◌∙◌}
use Rattle.jfs_disk.specs.Image.{page_of}
use Rattle.jfs_object_check.proofs.Walks.{names_end, names_met}
use Rattle.jfs_object_check.proofs.trees.walk_names.Goals as goal

pub returns-clause-ends : goal.returns-clause-ends
returns-clause-ends g c = λ tells. names_end (g.V.PageView.block_count c.args.view.now) c.blocks-blocks.result (page_of (g.V.PageView.image c.args.view.now)) c.args.inode.now c.root_in.result.now c.walk_tree.result c.blocks-blocks.ensures c.root_in.ensures.root
    (sym c.has_names.ensures ∙ c.if-not-has_names.false) (c.walk_tree.ensures.spelled tells) (c.walk_tree.ensures.bad tells)

pub returns-clause-counted : goal.returns-clause-counted
returns-clause-counted g c = λ tells. names_met (g.V.PageView.block_count c.args.view.now) c.blocks-blocks.result (page_of (g.V.PageView.image c.args.view.now)) c.args.inode.now c.root_in.result.now c.walk_tree.result c.blocks-blocks.ensures c.root_in.ensures.root
    c.args.tally.now c.walk_tree.new.visitor (sym c.has_names.ensures ∙ c.if-not-has_names.false) (c.walk_tree.ensures.met tells)
