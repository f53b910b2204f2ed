use Rattle.std.proofs.Common.{◌≤◌, sym, ap, ◌∙◌, subst, ℕ, List, map, arith, Ok}
use Rattle.jfs_disk.specs.Image.{page_of}
use Rattle.jfs_name.specs.declared.name.NameEntry.{NameEntry}
use Rattle.jfs_dtpage.specs.declared.head.DtForm.TheVariants.{Root}
use Rattle.jfs_tree.specs.Walk.{Leaf}
use Rattle.jfs_tree.specs.Spells.{no_page}
use Rattle.jfs_tree.specs.Form.{Leads, LeadsDown}
use Rattle.jfs_dtree.specs.Node.{name_scale, dt_node}
use Rattle.jfs_dtree.specs.Spells.{page_nodes, found_for}
use Rattle.jfs_dtree.specs.Replacing.{led, end_below, LeadsBelow, EndsNowhere}
use Rattle.jfs_dtree.proofs.Replaced.{led_here, led_below, lost_below, view_follows, view_misses}
use Rattle.jfs_dtree.proofs.replacing.replace.Goals as goal

pub returns-in-Ok-Here-clause-replaces : goal.returns-in-Ok-Here-clause-replaces
returns-in-Ok-Here-clause-replaces g c tells =
    let blocks = g.V.PageView.block_count c.args.view.now in
    let pages = page_of (g.V.PageView.image c.args.view.now) in
    let with_units = λ (units : List ℕ). (let e : NameEntry = record { name = units; inode = 0 } in e) in
    let is = c.new-x.ensures ∙ ap with_units c.as_slice.ensures in
    let count = c.blocks-blocks.ensures ∙ c.find.ensures.count_of_blocks in
    let leads = subst (λ w. Leads name_scale c.new-x.result (dt_node Root c.blocks-blocks.result c.args.root.now) (Ok w)) c.in-Ok-Here.field-0-is c.in-Ok-Here.ensures.way in
    let leaf = ap (λ k. dt_node Root k c.args.root.now) (sym count) ∙ leads.1 in
    led_here blocks pages c.args.root.now c.lead_name.new.bytes c.args.name.now c.args.inode c.in-Ok-Some.old leads.0 c.args.tx.now (sym (c.in-Ok-Some.ensures.on_way tells) ∙ c.in-Ok-Some.field-0-is)
    leaf (c.lead_name.ensures.node blocks leads.0 leaf ∙ ap (λ (e : NameEntry). Leaf (map (led e.name c.args.inode) leads.0)) is)

pub returns-in-Ok-clause-replaces : goal.returns-in-Ok-clause-replaces
returns-in-Ok-clause-replaces g c tells =
    let blocks = g.V.PageView.block_count c.args.view.now in
    let image = g.V.PageView.image c.args.view.now in
    let with_units = λ (units : List ℕ). (let e : NameEntry = record { name = units; inode = 0 } in e) in
    let is = c.new-x.ensures ∙ ap with_units c.as_slice.ensures in
    let count = c.blocks-blocks.ensures ∙ c.find.ensures.count_of_blocks in
    let most : blocks ≤ no_page = (let t = c.blocks-blocks.type_inv in omega (arith, count, t)) in
    let leads = subst (λ k. LeadsDown name_scale c.new-x.result (dt_node Root k c.args.root.now) c.in-Ok-Down.field-0-0 c.in-Ok-Down.page) count
    (subst (λ w. Leads name_scale c.new-x.result (dt_node Root c.blocks-blocks.result c.args.root.now) (Ok w)) c.in-Ok-Down.field-0-is c.in-Ok-Down.ensures.way) in
    let below = subst (λ k. LeadsBelow k (page_of image) c.new-x.result.name c.args.inode c.in-Ok-Down.page c.args.tx.now c.lead_below.new.tx) c.find.ensures.count_of_blocks
    (subst (λ i. LeadsBelow (g.V.PageView.block_count c.find.new.view) (page_of i) c.new-x.result.name c.args.inode c.in-Ok-Down.page c.args.tx.now c.lead_below.new.tx) (c.find.ensures.image tells) (c.in-Ok.ensures.leads tells)) in
    led_below blocks (page_of image) c.args.root.now c.args.name.now c.new-x.result c.args.inode c.in-Ok-Down.field-0-0 c.in-Ok-Down.page c.in-Ok-Some.old c.args.tx.now c.lead_below.new.tx
    most is leads below (sym (c.in-Ok-Some.ensures.on_way tells) ∙ c.in-Ok-Some.field-0-is)

pub returns-in-Err-lead_below-clause-on_way : goal.returns-in-Err-lead_below-clause-on_way
returns-in-Err-lead_below-clause-on_way g c tells =
    let blocks = g.V.PageView.block_count c.args.view.now in
    let image = g.V.PageView.image c.args.view.now in
    let with_units = λ (units : List ℕ). (let e : NameEntry = record { name = units; inode = 0 } in e) in
    let is = c.new-x.ensures ∙ ap with_units c.as_slice.ensures in
    let count = c.blocks-blocks.ensures ∙ c.find.ensures.count_of_blocks in
    let leads = subst (λ k. LeadsDown name_scale c.new-x.result (dt_node Root k c.args.root.now) c.in-Ok-Down.field-0-0 c.in-Ok-Down.page) count
    (subst (λ w. Leads name_scale c.new-x.result (dt_node Root c.blocks-blocks.result c.args.root.now) (Ok w)) c.in-Ok-Down.field-0-is c.in-Ok-Down.ensures.way) in
    let nowhere = subst (λ k. EndsNowhere (end_below name_scale (page_nodes k (page_of image)) c.new-x.result.name 7 c.in-Ok-Down.page) c.in-Err-lead_below.e) c.find.ensures.count_of_blocks
    (subst (λ i. EndsNowhere (end_below name_scale (page_nodes (g.V.PageView.block_count c.find.new.view) (page_of i)) c.new-x.result.name 7 c.in-Ok-Down.page) c.in-Err-lead_below.e) (c.find.ensures.image tells) (c.in-Err-lead_below.ensures.nowhere tells)) in
    view_follows (found_for blocks (page_of image) c.args.root.now c.args.name.now) c.in-Err-lead_below.e
    (lost_below blocks (page_of image) c.args.root.now c.args.name.now c.new-x.result c.in-Ok-Down.field-0-0 c.in-Ok-Down.page c.in-Ok-Some.old c.in-Err-lead_below.e is leads nowhere (sym (c.in-Ok-Some.ensures.on_way tells) ∙ c.in-Ok-Some.field-0-is))

pub returns-in-Err-lead_below-clause-missed : goal.returns-in-Err-lead_below-clause-missed
returns-in-Err-lead_below-clause-missed g c tells =
    let blocks = g.V.PageView.block_count c.args.view.now in
    let image = g.V.PageView.image c.args.view.now in
    let with_units = λ (units : List ℕ). (let e : NameEntry = record { name = units; inode = 0 } in e) in
    let is = c.new-x.ensures ∙ ap with_units c.as_slice.ensures in
    let count = c.blocks-blocks.ensures ∙ c.find.ensures.count_of_blocks in
    let leads = subst (λ k. LeadsDown name_scale c.new-x.result (dt_node Root k c.args.root.now) c.in-Ok-Down.field-0-0 c.in-Ok-Down.page) count
    (subst (λ w. Leads name_scale c.new-x.result (dt_node Root c.blocks-blocks.result c.args.root.now) (Ok w)) c.in-Ok-Down.field-0-is c.in-Ok-Down.ensures.way) in
    let nowhere = subst (λ k. EndsNowhere (end_below name_scale (page_nodes k (page_of image)) c.new-x.result.name 7 c.in-Ok-Down.page) c.in-Err-lead_below.e) c.find.ensures.count_of_blocks
    (subst (λ i. EndsNowhere (end_below name_scale (page_nodes (g.V.PageView.block_count c.find.new.view) (page_of i)) c.new-x.result.name 7 c.in-Ok-Down.page) c.in-Err-lead_below.e) (c.find.ensures.image tells) (c.in-Err-lead_below.ensures.nowhere tells)) in
    view_misses blocks (page_of image) c.args.name.now c.args.root.now c.in-Err-lead_below.e
    (lost_below blocks (page_of image) c.args.root.now c.args.name.now c.new-x.result c.in-Ok-Down.field-0-0 c.in-Ok-Down.page c.in-Ok-Some.old c.in-Err-lead_below.e is leads nowhere (sym (c.in-Ok-Some.ensures.on_way tells) ∙ c.in-Ok-Some.field-0-is))
