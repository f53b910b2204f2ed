use Rattle.std.proofs.Common.{refl, sym, subst, Ok}
use Rattle.jfs_disk.specs.Image.{page_of}
use Rattle.jfs_tree.proofs.RootCalls.{names_root}
use Rattle.jfs_xtree.specs.Node.{xt_scale, xt_node}
use Rattle.jfs_xtree.specs.Spells.{page_nodes}
use Rattle.jfs_ways.specs.Leading.{LeadsOn}
use Rattle.jfs_ways.proofs.Ways.{same_pages, root_tells, root_names}
use Rattle.jfs_ways.proofs.along.look_down.Goals as goal

pub returns-in-Err-clause-bad : goal.returns-in-Err-clause-bad
returns-in-Err-clause-bad g c tells =
    names_root xt_scale (page_nodes c.args.top.now.blocks (page_of (g.V.PageView.image c.args.view.now))) (xt_node c.args.top.now.form c.args.top.now.blocks c.args.root.now) c.in-Err.rule c.in-Err.ensures.leads

pub returns-in-Ok-Some-clause-bad : goal.returns-in-Ok-Some-clause-bad
returns-in-Ok-Some-clause-bad g c tells =
    let image = g.V.PageView.image c.args.view.now in
    let root = xt_node c.args.top.now.form c.args.top.now.blocks c.args.root.now in
    let leads = subst (λ o. LeadsOn root c.args.at c.args.end (Ok o)) c.in-Ok-Some.field-0-is c.in-Ok-Some.ensures.leads in
    root_names (page_nodes c.args.top.now.blocks (page_of image)) (page_nodes (g.V.PageView.block_count c.args.view.now) (page_of image))
    (same_pages c.args.top.now.blocks (g.V.PageView.block_count c.args.view.now) image image (sym c.requires.blocks.0) refl)
    c.args.at c.args.end c.in-Ok-Some.on.page c.in-Ok-Some.on.next root c.look_below.result leads (c.look_below.ensures.bad tells)

pub returns-in-Ok-Some-clause-way : goal.returns-in-Ok-Some-clause-way
returns-in-Ok-Some-clause-way g c tells =
    let image = g.V.PageView.image c.args.view.now in
    let root = xt_node c.args.top.now.form c.args.top.now.blocks c.args.root.now in
    let leads = subst (λ o. LeadsOn root c.args.at c.args.end (Ok o)) c.in-Ok-Some.field-0-is c.in-Ok-Some.ensures.leads in
    root_tells (page_nodes c.args.top.now.blocks (page_of image)) (page_nodes (g.V.PageView.block_count c.args.view.now) (page_of image))
    (same_pages c.args.top.now.blocks (g.V.PageView.block_count c.args.view.now) image image (sym c.requires.blocks.0) refl)
    c.args.at c.args.end c.in-Ok-Some.on.page c.in-Ok-Some.on.next c.look_below.result c.look_below.ensures.until root leads (c.look_below.ensures.way tells)
