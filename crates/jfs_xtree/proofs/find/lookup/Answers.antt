use Rattle.std.proofs.Common.{sym, ap, ◌∙◌, subst, length}
use Rattle.jfs_bits.specs.declared.extent.Xad.{Xad}
use Rattle.jfs_disk.specs.Image.{page_of}
use Rattle.jfs_tree.specs.Root.{NamesBroken}
use Rattle.jfs_xtree.specs.Node.{xt_scale}
use Rattle.jfs_xtree.specs.Spells.{root_form, root_node, page_nodes, point, tree_error}
use Rattle.jfs_xtree.proofs.Roots.{finds_as, found_as, names_as, first_as, told_failed}
use Rattle.jfs_xtree.proofs.find.lookup.Goals as goal

pub returns-in-Ok-clause-found : goal.returns-in-Ok-clause-found
returns-in-Ok-clause-found g c tells =
    finds_as c.blocks-blocks.result (g.V.PageView.block_count c.args.view.now) c.root_form-form.result (root_form (length c.args.root.now)) c.point-x.result (point c.args.offset) (g.V.PageView.image c.args.view.now) c.args.root.now c.in-Ok.found
    c.blocks-blocks.ensures c.root_form-form.ensures c.point-x.ensures (c.in-Ok.ensures.found tells)

pub returns-in-Err-clause-bad : goal.returns-in-Err-clause-bad
returns-in-Err-clause-bad g c tells =
    subst (λ r. NamesBroken xt_scale (page_nodes (g.V.PageView.block_count c.args.view.now) (page_of (g.V.PageView.image c.args.view.now))) (root_node (g.V.PageView.block_count c.args.view.now) c.args.root.now) (tree_error r)) (sym c.handed_on.ensures)
    (names_as c.blocks-blocks.result (g.V.PageView.block_count c.args.view.now) c.root_form-form.result (root_form (length c.args.root.now)) (g.V.PageView.image c.args.view.now) c.args.root.now c.in-Err.e c.blocks-blocks.ensures c.root_form-form.ensures (c.in-Err.ensures.bad tells))

pub returns-in-Ok-clause-way : goal.returns-in-Ok-clause-way
returns-in-Ok-clause-way g c tells =
    sym (first_as c.blocks-blocks.result (g.V.PageView.block_count c.args.view.now) c.root_form-form.result (root_form (length c.args.root.now)) c.point-x.result c.args.offset (g.V.PageView.image c.args.view.now) c.args.root.now
    c.blocks-blocks.ensures c.root_form-form.ensures (ap (λ (x : Xad). x.offset) c.point-x.ensures))
    ∙ c.in-Ok.ensures.way tells

pub returns-in-Err-clause-way : goal.returns-in-Err-clause-way
returns-in-Err-clause-way g c tells =
    told_failed _ _ c.in-Err.e c.handed_on.result c.handed_on.ensures
    (first_as c.blocks-blocks.result (g.V.PageView.block_count c.args.view.now) c.root_form-form.result (root_form (length c.args.root.now)) c.point-x.result c.args.offset (g.V.PageView.image c.args.view.now) c.args.root.now
    c.blocks-blocks.ensures c.root_form-form.ensures (ap (λ (x : Xad). x.offset) c.point-x.ensures))
    (c.in-Err.ensures.way tells)

pub returns-in-Ok-clause-on_way : goal.returns-in-Ok-clause-on_way
returns-in-Ok-clause-on_way g c tells =
    found_as c.blocks-blocks.result (g.V.PageView.block_count c.args.view.now) c.root_form-form.result (root_form (length c.args.root.now)) c.point-x.result (point c.args.offset) (g.V.PageView.image c.args.view.now) c.args.root.now c.in-Ok.found
    c.blocks-blocks.ensures c.root_form-form.ensures c.point-x.ensures (c.in-Ok.ensures.on_way tells)
