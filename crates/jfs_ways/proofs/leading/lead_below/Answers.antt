use Rattle.std.proofs.Common.{subst, Ok}
use Rattle.jfs_tree.proofs.Finding.{bare_breaks, filled_leaf}
use Rattle.jfs_xtree.specs.Node.{xt_node}
use Rattle.jfs_ways.specs.Leading.{LeadsOn}
use Rattle.jfs_ways.proofs.leading.lead_below.Goals as goal

pub returns-then-is_bare-clause-leads : goal.returns-then-is_bare-clause-leads
returns-then-is_bare-clause-leads c =
    let node = xt_node c.args.form.now.form c.args.form.now.blocks c.args.bytes.now in
    let leaf = subst (λ o. LeadsOn node c.args.at c.args.end (Ok o)) c.in-Ok-None.field-0-is c.in-Ok-None.ensures.leads in
    bare_breaks node leaf.0 c.is_bare.result leaf.1 (c.is_bare.ensures leaf.0 leaf.1) c.if-is_bare.true

pub returns-else-is_bare-clause-leads : goal.returns-else-is_bare-clause-leads
returns-else-is_bare-clause-leads c =
    let node = xt_node c.args.form.now.form c.args.form.now.blocks c.args.bytes.now in
    let leaf = subst (λ o. LeadsOn node c.args.at c.args.end (Ok o)) c.in-Ok-None.field-0-is c.in-Ok-None.ensures.leads in
    filled_leaf node leaf.0 c.is_bare.result leaf.1 (c.is_bare.ensures leaf.0 leaf.1) c.if-is_bare.false
