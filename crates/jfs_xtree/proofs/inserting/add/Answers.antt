use Rattle.std.proofs.Common.{sym, subst, length, arith}
use Rattle.jfs_disk.specs.Image.{page_of}
use Rattle.jfs_tree.specs.Root.{RefusesWhereBad}
use Rattle.jfs_tree.specs.Fresh.{blocks_of}
use Rattle.jfs_xtree.specs.Node.{xt_scale, IsRoot}
use Rattle.jfs_xtree.specs.Spells.{root_form, root_node, page_nodes, tree_error, broken_for}
use Rattle.jfs_xtree.specs.Adding.{RefusesFull, ClashesFor, IsFullAndDeep, AddTellsWay}
use Rattle.jfs_xtree.proofs.Adds.{adds_as, appends_as, thin_as, refuses_as, full_as, takes_as, tells_as, went_in, failed}
use Rattle.jfs_xtree.proofs.Adds.{names_as, apart_as}
use Rattle.jfs_xtree.proofs.Frames.{root_kept}
use Rattle.jfs_xtree.proofs.Roots.{form_fits}
use Rattle.jfs_xtree.proofs.inserting.add.Goals as goal

pub returns-in-Ok-clause-adds : goal.returns-in-Ok-clause-adds
returns-in-Ok-clause-adds g c tells =
    adds_as c.blocks-blocks.result (g.V.PageView.block_count c.args.view.now) c.root_form-form.result (g.V.PageView.image c.args.view.now) c.args.x c.args.root.now c.add_and_tell.new.root (blocks_of c.args.fresh.now) (blocks_of c.add_and_tell.new.fresh) c.args.tx.now c.add_and_tell.new.tx
    c.blocks-blocks.ensures c.root_form-form.ensures (c.in-Ok.ensures.adds tells)

pub returns-in-Ok-clause-room : goal.returns-in-Ok-clause-room
returns-in-Ok-clause-room g c tells =
    takes_as c.blocks-blocks.result (g.V.PageView.block_count c.args.view.now) c.root_form-form.result c.args.x (g.V.PageView.image c.args.view.now) c.args.root.now (blocks_of c.args.fresh.now) (blocks_of c.add_and_tell.new.fresh)
    c.blocks-blocks.ensures c.root_form-form.ensures (c.in-Ok.ensures.room tells)

pub returns-in-Err-clause-refused : goal.returns-in-Err-clause-refused
returns-in-Err-clause-refused g c tells =
    subst (λ r. RefusesWhereBad xt_scale c.args.x (page_nodes (g.V.PageView.block_count c.args.view.now) (page_of (g.V.PageView.image c.args.view.now))) (root_node (g.V.PageView.block_count c.args.view.now) c.args.root.now) (blocks_of c.args.fresh.now) (tree_error r)) (sym c.handed_on.ensures)
    (refuses_as c.blocks-blocks.result (g.V.PageView.block_count c.args.view.now) c.root_form-form.result (root_form (length c.args.root.now)) c.args.x (g.V.PageView.image c.args.view.now) c.args.root.now (blocks_of c.args.fresh.now) c.in-Err.e
    c.blocks-blocks.ensures c.root_form-form.ensures (c.in-Err.ensures.refused tells))

pub returns-in-Err-clause-full : goal.returns-in-Err-clause-full
returns-in-Err-clause-full g c tells =
    subst (λ r. RefusesFull (g.V.PageView.block_count c.args.view.now) (page_of (g.V.PageView.image c.args.view.now)) c.args.x c.args.root.now (blocks_of c.args.fresh.now) (tree_error r)) (sym c.handed_on.ensures)
    (full_as c.blocks-blocks.result (g.V.PageView.block_count c.args.view.now) c.root_form-form.result c.args.x (g.V.PageView.image c.args.view.now) c.args.root.now (blocks_of c.args.fresh.now) c.in-Err.e
    c.blocks-blocks.ensures c.root_form-form.ensures (c.in-Err.ensures.full tells))

pub returns-in-Ok-clause-thin : goal.returns-in-Ok-clause-thin
returns-in-Ok-clause-thin g c tells =
    thin_as 64 c.blocks-blocks.result (g.V.PageView.block_count c.args.view.now) c.root_form-form.result (g.V.PageView.image c.args.view.now) c.args.x c.args.root.now c.add_and_tell.new.root (blocks_of c.args.fresh.now) c.args.tx.now c.add_and_tell.new.tx
    c.blocks-blocks.ensures c.root_form-form.ensures (c.in-Ok.ensures.thin 64 (omega arith) tells)

pub returns-in-Ok-clause-parts : goal.returns-in-Ok-clause-parts
returns-in-Ok-clause-parts g c tells = λ least most.
    thin_as least c.blocks-blocks.result (g.V.PageView.block_count c.args.view.now) c.root_form-form.result (g.V.PageView.image c.args.view.now) c.args.x c.args.root.now c.add_and_tell.new.root (blocks_of c.args.fresh.now) c.args.tx.now c.add_and_tell.new.tx
    c.blocks-blocks.ensures c.root_form-form.ensures (c.in-Ok.ensures.thin least most tells)

pub returns-in-Ok-clause-appends : goal.returns-in-Ok-clause-appends
returns-in-Ok-clause-appends g c tells = λ least most.
    appends_as least c.blocks-blocks.result (g.V.PageView.block_count c.args.view.now) c.root_form-form.result (g.V.PageView.image c.args.view.now) c.args.x c.args.root.now c.add_and_tell.new.root (blocks_of c.args.fresh.now) c.args.tx.now c.add_and_tell.new.tx
    c.blocks-blocks.ensures c.root_form-form.ensures (c.in-Ok.ensures.appends least most tells)

pub returns-in-Ok-clause-way : goal.returns-in-Ok-clause-way
returns-in-Ok-clause-way g c tells =
    went_in c.blocks-blocks.result (g.V.PageView.block_count c.args.view.now) c.root_form-form.result c.args.x (g.V.PageView.image c.args.view.now) c.args.root.now c.blocks-blocks.ensures c.root_form-form.ensures (c.in-Ok.ensures.way tells)

pub returns-in-Err-clause-way : goal.returns-in-Err-clause-way
returns-in-Err-clause-way g c tells =
    subst (λ r. AddTellsWay (broken_for (g.V.PageView.block_count c.args.view.now) (page_of (g.V.PageView.image c.args.view.now)) c.args.root.now c.args.x.offset)
    (ClashesFor (g.V.PageView.block_count c.args.view.now) (page_of (g.V.PageView.image c.args.view.now)) c.args.x c.args.root.now)
    (IsFullAndDeep (g.V.PageView.block_count c.args.view.now) (page_of (g.V.PageView.image c.args.view.now)) c.args.x c.args.root.now) (failed r)) (sym c.handed_on.ensures)
    (tells_as c.blocks-blocks.result (g.V.PageView.block_count c.args.view.now) c.root_form-form.result c.args.x (g.V.PageView.image c.args.view.now) c.args.root.now c.in-Err.e
    c.blocks-blocks.ensures c.root_form-form.ensures (c.in-Err.ensures.way tells))

pub returns-in-Ok-clause-named : goal.returns-in-Ok-clause-named
returns-in-Ok-clause-named g c tells =
    names_as c.blocks-blocks.result (g.V.PageView.block_count c.args.view.now) c.root_form-form.result (g.V.PageView.image c.args.view.now) c.args.x c.args.root.now (blocks_of c.args.fresh.now) (blocks_of c.add_and_tell.new.fresh) c.args.tx.now c.add_and_tell.new.tx
    c.blocks-blocks.ensures c.root_form-form.ensures (c.in-Ok.ensures.framed tells)

pub returns-in-Ok-clause-apart : goal.returns-in-Ok-clause-apart
returns-in-Ok-clause-apart g c tells =
    apart_as c.blocks-blocks.result (g.V.PageView.block_count c.args.view.now) c.root_form-form.result (g.V.PageView.image c.args.view.now) c.args.x c.args.root.now c.blocks-blocks.ensures c.root_form-form.ensures (c.in-Ok.ensures.apart tells)

pub returns-in-Ok-clause-frame : goal.returns-in-Ok-clause-frame
returns-in-Ok-clause-frame g c = root_kept c.root_form-form.result c.args.root.now c.add_and_tell.new.root (subst IsRoot (sym c.root_form-form.ensures) (form_fits (length c.args.root.now) c.requires.root).1) c.add_and_tell.ensures.frame
