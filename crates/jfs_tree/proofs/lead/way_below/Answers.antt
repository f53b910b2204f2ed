use Rattle.std.proofs.Common.{subst, Ok}
use Rattle.jfs_tree.specs.Form.{Leads}
use Rattle.jfs_tree.proofs.Finding.{bare_breaks, filled_leaf}
use Rattle.jfs_tree.proofs.lead.way_below.Goals as goal

pub returns-then-is_bare-clause-below : goal.returns-then-is_bare-clause-below
returns-then-is_bare-clause-below g c =
    let leaf = subst (λ w. Leads g.F.PageForm.scale c.args.x.now (g.F.PageForm.node c.args.form.now c.args.bytes.now) (Ok w)) c.in-Ok-Here.field-0-is c.in-Ok-Here.ensures.way in
    bare_breaks (g.F.PageForm.node c.args.form.now c.args.bytes.now) leaf.0 c.is_bare.result leaf.1 (c.is_bare.ensures leaf.0 leaf.1) c.if-is_bare.true

pub returns-else-is_bare-clause-below : goal.returns-else-is_bare-clause-below
returns-else-is_bare-clause-below g c =
    let leaf = subst (λ w. Leads g.F.PageForm.scale c.args.x.now (g.F.PageForm.node c.args.form.now c.args.bytes.now) (Ok w)) c.in-Ok-Here.field-0-is c.in-Ok-Here.ensures.way in
    filled_leaf (g.F.PageForm.node c.args.form.now c.args.bytes.now) leaf.0 c.is_bare.result leaf.1 (c.is_bare.ensures leaf.0 leaf.1) c.if-is_bare.false
