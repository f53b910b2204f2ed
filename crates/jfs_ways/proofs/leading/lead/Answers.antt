use Rattle.std.proofs.Common.{refl, subst, Ok, arith}
use Rattle.jfs_tree.specs.Form.{Leads, TellsLast}
use Rattle.jfs_xtree.specs.Node.{xt_scale, xt_node}
use Rattle.jfs_ways.proofs.Until.{until_end, until_next, has_next, fits_next}
use Rattle.jfs_ways.proofs.leading.lead.Goals as goal

pub returns-then-last-clause-leads : goal.returns-then-last-clause-leads
returns-then-last-clause-leads c =
    let node = xt_node c.args.form.now.form c.args.form.now.blocks c.args.bytes.now in
    let leads = subst (λ w. Leads xt_scale c.one_block.result node (Ok w)) c.in-Ok-Down.field-0-is c.in-Ok-Down.ensures.way in
    let tells = subst (λ w. TellsLast node w) c.in-Ok-Down.field-0-is c.in-Ok-Down.ensures.last in
    until_end node c.one_block.result c.args.at c.args.end c.in-Ok-Down.place c.in-Ok-Down.page c.in-Ok-Down.last c.one_block.ensures c.requires.some leads tells c.if-last.true

pub overflow_add-place : goal.overflow_add-place
overflow_add-place c =
    let node = xt_node c.args.form.now.form c.args.form.now.blocks c.args.bytes.now in
    let leads = subst (λ w. Leads xt_scale c.one_block.result node (Ok w)) c.in-Ok-Down.field-0-is c.in-Ok-Down.ensures.way in
    let tells = subst (λ w. TellsLast node w) c.in-Ok-Down.field-0-is c.in-Ok-Down.ensures.last in
    let few = fits_next node c.one_block.result c.args.at c.args.end c.in-Ok-Down.place c.in-Ok-Down.page c.in-Ok-Down.last c.one_block.ensures c.requires.some leads tells c.args.form.now.form c.args.form.now.blocks c.args.bytes.now refl in
    omega (arith, few)

pub returns-else-last-clause-leads : goal.returns-else-last-clause-leads
returns-else-last-clause-leads c =
    let node = xt_node c.args.form.now.form c.args.form.now.blocks c.args.bytes.now in
    let leads = subst (λ w. Leads xt_scale c.one_block.result node (Ok w)) c.in-Ok-Down.field-0-is c.in-Ok-Down.ensures.way in
    let tells = subst (λ w. TellsLast node w) c.in-Ok-Down.field-0-is c.in-Ok-Down.ensures.last in
    until_next node c.one_block.result c.args.at c.args.end c.in-Ok-Down.place c.in-Ok-Down.page c.in-Ok-Down.last c.one_block.ensures c.requires.some leads tells c.child-next.result c.min.result c.in-Ok-Down.ensures.rise c.child-next.ensures.is c.min.ensures
