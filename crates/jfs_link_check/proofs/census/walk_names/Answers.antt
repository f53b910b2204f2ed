-- What the walk met, with the blocks and the root that it was given.
use Rattle.jfs_disk.specs.Image.{page_of}
use Rattle.jfs_object_check.proofs.Walks.{names_end}
use Rattle.jfs_link_check.proofs.Walked.{tree_seen}
use Rattle.jfs_link_check.proofs.census.walk_names.Goals as goal

pub returns-clause-ends : goal.returns-clause-ends
returns-clause-ends g c = λ tells. names_end (g.V.PageView.block_count c.args.view.now) c.blocks-blocks.result (page_of (g.V.PageView.image c.args.view.now)) c.args.inode.now c.root_in.result.now c.walk_tree.result c.blocks-blocks.ensures c.root_in.ensures.root
    c.requires (c.walk_tree.ensures.spelled tells) (c.walk_tree.ensures.bad tells)

pub returns-clause-seen : goal.returns-clause-seen
returns-clause-seen g c = λ tells. tree_seen (g.V.PageView.block_count c.args.view.now) c.blocks-blocks.result (page_of (g.V.PageView.image c.args.view.now)) c.args.inode.now c.root_in.result.now c.walk_tree.result c.blocks-blocks.ensures c.root_in.ensures.root
    c.requires c.args.census.now c.walk_tree.new.visitor (c.walk_tree.ensures.met tells)
