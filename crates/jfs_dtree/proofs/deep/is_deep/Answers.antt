use Rattle.std.proofs.Common.{subst, false, Ok}
use Rattle.jfs_disk.specs.Image.{page_of}
use Rattle.jfs_dtpage.specs.declared.head.DtForm.TheVariants.{Root}
use Rattle.jfs_tree.specs.Form.{Leads}
use Rattle.jfs_dtree.specs.Node.{name_scale, dt_node}
use Rattle.jfs_dtree.proofs.Tight.{deep_leaf, deep_broken, deep_found}
use Rattle.jfs_dtree.proofs.Refused.{leaf_still, broken_still, root_tight, way_deep_at, leaf_shallow, broken_shallow}
use Rattle.jfs_dtree.proofs.deep.is_deep.Goals as goal

pub returns-in-Ok-Down-clause-deep : goal.returns-in-Ok-Down-clause-deep
returns-in-Ok-Down-clause-deep g c tells =
    let leads = subst (λ w. Leads name_scale c.args.x.now (dt_node Root c.args.blocks c.args.root.now) (Ok w)) c.in-Ok-Down.field-0-is c.in-Ok-Down.ensures.way in
    deep_found c.args.blocks (page_of (g.V.PageView.image c.args.view.now)) c.args.root.now c.args.x.now c.in-Ok-Down.field-0-0 c.in-Ok-Down.page c.is_deep_below.result leads (c.is_deep_below.ensures.tight tells)

pub returns-in-Ok-Here-clause-deep : goal.returns-in-Ok-Here-clause-deep
returns-in-Ok-Here-clause-deep g c tells es spelled =
    deep_leaf c.args.blocks (page_of (g.V.PageView.image c.args.view.now)) c.args.x.now.name c.args.root.now (subst (λ w. Leads name_scale c.args.x.now (dt_node Root c.args.blocks c.args.root.now) (Ok w)) c.in-Ok-Here.field-0-is c.in-Ok-Here.ensures.way)

pub returns-in-Err-clause-deep : goal.returns-in-Err-clause-deep
returns-in-Err-clause-deep g c tells = deep_broken c.args.blocks (page_of (g.V.PageView.image c.args.view.now)) c.args.x.now.name c.args.root.now _ c.in-Err.ensures.way

pub returns-in-Ok-Down-clause-tight : goal.returns-in-Ok-Down-clause-tight
returns-in-Ok-Down-clause-tight g c tells =
    let leads = subst (λ w. Leads name_scale c.args.x.now (dt_node Root c.args.blocks c.args.root.now) (Ok w)) c.in-Ok-Down.field-0-is c.in-Ok-Down.ensures.way in
    root_tight c.args.blocks (page_of (g.V.PageView.image c.args.view.now)) c.args.root.now c.args.x.now c.in-Ok-Down.field-0-0 c.in-Ok-Down.page c.is_deep_below.result leads (c.is_deep_below.ensures.tight tells)

pub returns-in-Ok-Here-clause-tight : goal.returns-in-Ok-Here-clause-tight
returns-in-Ok-Here-clause-tight g c tells =
    let leads = subst (λ w. Leads name_scale c.args.x.now (dt_node Root c.args.blocks c.args.root.now) (Ok w)) c.in-Ok-Here.field-0-is c.in-Ok-Here.ensures.way in
    leaf_still c.args.blocks (page_of (g.V.PageView.image c.args.view.now)) c.args.root.now c.args.x.now.name leads.0 false leads.1

pub returns-in-Err-clause-tight : goal.returns-in-Err-clause-tight
returns-in-Err-clause-tight g c tells = broken_still c.args.blocks (page_of (g.V.PageView.image c.args.view.now)) c.args.root.now c.args.x.now.name _ false c.in-Err.ensures.way

pub returns-in-Ok-Down-clause-on_way : goal.returns-in-Ok-Down-clause-on_way
returns-in-Ok-Down-clause-on_way g c tells =
    let leads = subst (λ w. Leads name_scale c.args.x.now (dt_node Root c.args.blocks c.args.root.now) (Ok w)) c.in-Ok-Down.field-0-is c.in-Ok-Down.ensures.way in
    way_deep_at c.args.blocks (page_of (g.V.PageView.image c.args.view.now)) c.args.root.now c.args.x.now c.in-Ok-Down.field-0-0 c.in-Ok-Down.page c.is_deep_below.result leads (c.is_deep_below.ensures.tight tells)

pub returns-in-Ok-Here-clause-on_way : goal.returns-in-Ok-Here-clause-on_way
returns-in-Ok-Here-clause-on_way g c tells =
    let leads = subst (λ w. Leads name_scale c.args.x.now (dt_node Root c.args.blocks c.args.root.now) (Ok w)) c.in-Ok-Here.field-0-is c.in-Ok-Here.ensures.way in
    leaf_shallow c.args.blocks (page_of (g.V.PageView.image c.args.view.now)) c.args.root.now c.args.x.now.name leads.0 leads.1

pub returns-in-Err-clause-on_way : goal.returns-in-Err-clause-on_way
returns-in-Err-clause-on_way g c tells = broken_shallow c.args.blocks (page_of (g.V.PageView.image c.args.view.now)) c.args.root.now c.args.x.now.name _ c.in-Err.ensures.way
