use Rattle.std.proofs.Common.{sym, ap, ◌∙◌, subst, ◌-◌, Ok, Some, arith}
use Rattle.jfs_disk.specs.Image.{page_of}
use Rattle.jfs_tree.specs.Path.{below_root}
use Rattle.jfs_tree.proofs.Path.{way_deep}
use Rattle.jfs_xtree.specs.Node.{xt_scale, xt_node}
use Rattle.jfs_xtree.specs.Spells.{page_nodes}
use Rattle.jfs_ways.specs.Leading.{LeadsOn}
use Rattle.jfs_ways.proofs.Ways.{breaks_here, ends_here, page_read, same_pages, below_tells, below_names}
use Rattle.jfs_ways.proofs.below.+look_below.Goals as goal

pub returns-then-most-eq0-clause-way : goal.returns-then-most-eq0-clause-way
returns-then-most-eq0-clause-way g t c tells =
    way_deep xt_scale (page_nodes (g.V.PageView.block_count c.args.view.now) (page_of (g.V.PageView.image c.args.view.now))) c.args.at c.args.most c.args.page c.if-most-eq0.true

pub returns-in-Err-lead_below-clause-way : goal.returns-in-Err-lead_below-clause-way
returns-in-Err-lead_below-clause-way g t c tells =
    let blocks = g.V.PageView.block_count c.args.view.now in
    let image = g.V.PageView.image c.args.view.now in
    let read = page_read c.args.form.now.form c.args.form.now.blocks blocks c.bytes.result.now c.in-Ok.bytes.now.0 image c.args.page c.requires.form.0 c.requires.form.1 c.bytes.ensures.value (c.in-Ok.ensures.bytes tells) in
    breaks_here (page_nodes blocks (page_of image)) c.args.most (c.args.most - 1) c.args.page (xt_node c.args.form.now.form c.args.form.now.blocks c.bytes.result.now) (let h = c.if-most-eq0.false in omega (arith, h)) read c.args.at
    c.in-Err-lead_below.rule c.in-Err-lead_below.ensures.leads

pub returns-in-Ok-None-clause-way : goal.returns-in-Ok-None-clause-way
returns-in-Ok-None-clause-way g t c tells = λ k l m.
    let blocks = g.V.PageView.block_count c.args.view.now in
    let image = g.V.PageView.image c.args.view.now in
    let node = xt_node c.args.form.now.form c.args.form.now.blocks c.bytes.result.now in
    let read = page_read c.args.form.now.form c.args.form.now.blocks blocks c.bytes.result.now c.in-Ok.bytes.now.0 image c.args.page c.requires.form.0 c.requires.form.1 c.bytes.ensures.value (c.in-Ok.ensures.bytes tells) in
    let leaf = subst (λ o. LeadsOn (below_root node) c.args.at c.args.end (Ok o)) c.in-Ok-None.field-0-is c.in-Ok-None.ensures.leads in
    ends_here (page_nodes blocks (page_of image)) c.args.most (c.args.most - 1) c.args.page node (let h = c.if-most-eq0.false in omega (arith, h)) read k leaf.0 leaf.1

pub returns-in-Ok-Some-clause-bad : goal.returns-in-Ok-Some-clause-bad
returns-in-Ok-Some-clause-bad g t c tells =
    let blocks = g.V.PageView.block_count c.args.view.now in
    let image = g.V.PageView.image c.args.view.now in
    let lent = c.page.follows.lender-at-none in
    let node = xt_node c.args.form.now.form c.args.form.now.blocks c.bytes.result.now in
    let read = page_read c.args.form.now.form c.args.form.now.blocks blocks c.bytes.result.now c.in-Ok.bytes.now.0 image c.args.page c.requires.form.0 c.requires.form.1 c.bytes.ensures.value (c.in-Ok.ensures.bytes tells) in
    let leads = subst (λ o. LeadsOn (below_root node) c.args.at c.args.end (Ok o)) c.in-Ok-Some.field-0-is c.in-Ok-Some.ensures.leads in
    below_names (page_nodes blocks (page_of image)) (page_nodes (g.V.PageView.block_count lent) (page_of (g.V.PageView.image lent)))
    (same_pages blocks (g.V.PageView.block_count lent) image (g.V.PageView.image lent) c.page.follows.holds-at-none.same_blocks (c.page.follows.holds-at-none.same_image tells))
    c.args.at c.args.end c.in-Ok-Some.on.page c.in-Ok-Some.on.next c.args.most (c.args.most - 1) c.args.page node c.look_below.result (let h = c.if-most-eq0.false in omega (arith, h)) read leads (c.look_below.ensures.bad tells)

pub returns-in-Ok-Some-clause-way : goal.returns-in-Ok-Some-clause-way
returns-in-Ok-Some-clause-way g t c tells =
    let blocks = g.V.PageView.block_count c.args.view.now in
    let image = g.V.PageView.image c.args.view.now in
    let lent = c.page.follows.lender-at-none in
    let node = xt_node c.args.form.now.form c.args.form.now.blocks c.bytes.result.now in
    let read = page_read c.args.form.now.form c.args.form.now.blocks blocks c.bytes.result.now c.in-Ok.bytes.now.0 image c.args.page c.requires.form.0 c.requires.form.1 c.bytes.ensures.value (c.in-Ok.ensures.bytes tells) in
    let leads = subst (λ o. LeadsOn (below_root node) c.args.at c.args.end (Ok o)) c.in-Ok-Some.field-0-is c.in-Ok-Some.ensures.leads in
    below_tells (page_nodes blocks (page_of image)) (page_nodes (g.V.PageView.block_count lent) (page_of (g.V.PageView.image lent)))
    (same_pages blocks (g.V.PageView.block_count lent) image (g.V.PageView.image lent) c.page.follows.holds-at-none.same_blocks (c.page.follows.holds-at-none.same_image tells))
    c.args.at c.args.end c.in-Ok-Some.on.page c.in-Ok-Some.on.next c.look_below.result c.look_below.ensures.until c.args.most (c.args.most - 1) c.args.page node (let h = c.if-most-eq0.false in omega (arith, h)) read leads (c.look_below.ensures.way tells)
