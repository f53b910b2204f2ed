use Rattle.std.proofs.Common.{◌∙◌, sym, subst, map, arith}
use Rattle.jfs_dtpage.specs.Order.{IsRising}
use Rattle.jfs_dtpage.specs.Page.{entries_of, names_of}
use Rattle.jfs_dtpage.proofs.Pages.{names_length}
use Rattle.jfs_dtree.specs.Node.{below, dt_node, named}
use Rattle.jfs_dtree.specs.Place.{LeadsAt}
use Rattle.jfs_dtree.proofs.Nodes.{leaf_read, inner_read, inner_is}
use Rattle.jfs_dtree.proofs.Leading.{count_some, leads_down, child_at, keys_are, tells_last, head_count}
use Rattle.jfs_dtree.proofs.Behind.{rising_keys}
use Rattle.jfs_dtree.proofs.lead.way_of.Goals as goal

pub returns-then-is_leaf-clause-way : goal.returns-then-is_leaf-clause-way
returns-then-is_leaf-clause-way c = (
  map named (entries_of c.args.form c.args.bytes.now),
  leaf_read c.args.form c.args.blocks c.args.bytes.now c.in_ok-head.ensures.sound.0 (sym c.is_leaf.ensures ∙ c.if-is_leaf.true),
)

pub child_place-place-requires-clause-some : goal.child_place-place-requires-clause-some
child_place-place-requires-clause-some c = count_some c.args.form c.args.bytes.now (c.in_ok-head.ensures.inner (sym c.is_leaf.ensures ∙ c.if-is_leaf.false)).1

pub child_page-requires-clause-place : goal.child_page-requires-clause-place
child_page-requires-clause-place c = let w = c.child_place-place.ensures.within in let n = names_length c.args.form c.args.bytes.now in omega (arith, w, n)

pub overflow_add-result : goal.overflow_add-result
overflow_add-result c =
    let w = c.child_place-place.ensures.within in let n = names_length c.args.form c.args.bytes.now in let h = head_count c.args.form c.args.bytes.now c.in_ok-head.head c.in_ok-head.ensures.sound.1 in
    omega (arith, w, n, h)

pub returns-clause-way : goal.returns-clause-way
returns-clause-way c =
    let kind = sym c.is_leaf.ensures ∙ c.if-is_leaf.false in
    let inner = c.in_ok-head.ensures.inner kind in
    let at = c.child_page.ensures.page in
    leads_down (dt_node c.args.form c.args.blocks c.args.bytes.now) (map below (entries_of c.args.form c.args.bytes.now)) c.args.x.now c.child_place-place.result c.child_page.result (record { key = at.1; page = at.0.addr })
    (inner_read c.args.form c.args.blocks c.args.bytes.now c.in_ok-head.ensures.sound.0 kind inner.0 inner.1)
    (subst IsRising (keys_are c.args.form c.args.bytes.now) c.in_ok-head.ensures.sound.0.1.1.1.1.0)
    (subst (λ keys. LeadsAt keys c.args.x.now.name c.child_place-place.result) (keys_are c.args.form c.args.bytes.now) (subst (λ name. LeadsAt (names_of c.args.form c.args.bytes.now) name c.child_place-place.result) c.name.ensures.units c.child_place-place.ensures))
    (child_at (entries_of c.args.form c.args.bytes.now) c.child_place-place.result c.child_page.result at.0 at.1 at.2) (sym at.3)

pub returns-clause-last : goal.returns-clause-last
returns-clause-last c = λ cs is.
    tells_last c.args.form c.args.bytes.now cs c.child_place-place.result c.from.result (inner_is c.args.form c.args.blocks c.args.bytes.now cs is).4
    (c.from.ensures ∙ head_count c.args.form c.args.bytes.now c.in_ok-head.head c.in_ok-head.ensures.sound.1)

pub returns-then-is_leaf-clause-rise : goal.returns-then-is_leaf-clause-rise
returns-then-is_leaf-clause-rise c = rising_keys c.args.form c.args.blocks c.args.bytes.now

pub returns-clause-rise : goal.returns-clause-rise
returns-clause-rise c = rising_keys c.args.form c.args.blocks c.args.bytes.now
