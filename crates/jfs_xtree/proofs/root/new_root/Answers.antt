use Rattle.std.proofs.Common.{length}
use Rattle.jfs_tree.proofs.Filling.{empty_thin}
use Rattle.jfs_xtree.specs.Node.{xt_node}
use Rattle.jfs_xtree.specs.Spells.{page_nodes, root_form}
use Rattle.jfs_xtree.proofs.Roots.{new_leaf_root, new_list_root}
use Rattle.jfs_xtree.proofs.root.new_root.Goals as goal

pub returns-clause-leaf : goal.returns-clause-leaf
returns-clause-leaf c = λ blocks. new_leaf_root c.root_form-form.result (root_form (length c.args.root.now)) blocks c.xt_new.new.bytes _ c.root_form-form.ensures c.xt_new.ensures.head c.xt_new.ensures.entries

pub returns-clause-list : goal.returns-clause-list
returns-clause-list c = λ blocks pages. new_list_root c.root_form-form.result (root_form (length c.args.root.now)) blocks pages c.xt_new.new.bytes _ c.root_form-form.ensures c.xt_new.ensures.head c.xt_new.ensures.entries

pub returns-clause-thin : goal.returns-clause-thin
returns-clause-thin c = λ blocks pages. empty_thin 64 (xt_node (root_form (length c.args.root.now)) blocks c.xt_new.new.bytes) (page_nodes blocks pages)
    (new_leaf_root c.root_form-form.result (root_form (length c.args.root.now)) blocks c.xt_new.new.bytes _ c.root_form-form.ensures c.xt_new.ensures.head c.xt_new.ensures.entries)
