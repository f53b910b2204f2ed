use Rattle.std.proofs.Common.{sym, ap, ◌∙◌, subst}
use Rattle.jfs_disk.specs.Image.{page_of}
use Rattle.jfs_name.specs.declared.name.NameEntry.{NameEntry}
use Rattle.jfs_dtree.specs.Laws.{point}
use Rattle.jfs_dtree.specs.Spells.{root_node, page_nodes, FailsWhereBad}
use Rattle.jfs_dtree.proofs.Roots.{finds_as, found_as, fails_as, first_as, told_failed}
use Rattle.jfs_dtree.proofs.lookup.find.Goals as goal

pub find_entry-requires-clause-point : goal.find_entry-requires-clause-point
find_entry-requires-clause-point g c = point c.new-x.result

pub returns-in-Ok-clause-found : goal.returns-in-Ok-clause-found
returns-in-Ok-clause-found g c tells =
    finds_as c.blocks-blocks.result (g.V.PageView.block_count c.args.view.now) (g.V.PageView.image c.args.view.now) c.args.root.now c.args.name.now c.new-x.result c.in-Ok.found c.inode_of.result
    c.blocks-blocks.ensures (ap (λ (e : NameEntry). e.name) c.new-x.ensures ∙ c.as_slice.ensures) c.inode_of.ensures (c.in-Ok.ensures.found tells)

pub returns-in-Err-clause-bad : goal.returns-in-Err-clause-bad
returns-in-Err-clause-bad g c tells =
    subst (FailsWhereBad (page_nodes (g.V.PageView.block_count c.args.view.now) (page_of (g.V.PageView.image c.args.view.now))) (root_node (g.V.PageView.block_count c.args.view.now) c.args.root.now)) (sym c.handed_on.ensures)
    (fails_as c.blocks-blocks.result (g.V.PageView.block_count c.args.view.now) (g.V.PageView.image c.args.view.now) c.args.root.now c.in-Err.e c.blocks-blocks.ensures (c.in-Err.ensures.bad tells))

pub returns-in-Ok-clause-way : goal.returns-in-Ok-clause-way
returns-in-Ok-clause-way g c tells =
    sym (first_as c.blocks-blocks.result (g.V.PageView.block_count c.args.view.now) (g.V.PageView.image c.args.view.now) c.args.root.now c.args.name.now c.new-x.result c.blocks-blocks.ensures (ap (λ (e : NameEntry). e.name) c.new-x.ensures ∙ c.as_slice.ensures))
    ∙ c.in-Ok.ensures.way tells

pub returns-in-Err-clause-way : goal.returns-in-Err-clause-way
returns-in-Err-clause-way g c tells =
    told_failed _ _ c.in-Err.e c.handed_on.result c.handed_on.ensures
    (first_as c.blocks-blocks.result (g.V.PageView.block_count c.args.view.now) (g.V.PageView.image c.args.view.now) c.args.root.now c.args.name.now c.new-x.result c.blocks-blocks.ensures (ap (λ (e : NameEntry). e.name) c.new-x.ensures ∙ c.as_slice.ensures))
    (c.in-Err.ensures.way tells)

pub returns-in-Ok-clause-on_way : goal.returns-in-Ok-clause-on_way
returns-in-Ok-clause-on_way g c tells =
    found_as c.blocks-blocks.result (g.V.PageView.block_count c.args.view.now) (g.V.PageView.image c.args.view.now) c.args.root.now c.args.name.now c.as_slice.result.now c.new-x.result c.in-Ok.found c.inode_of.result
    c.blocks-blocks.ensures c.new-x.ensures c.as_slice.ensures c.inode_of.ensures (c.in-Ok.ensures.on_way tells)
