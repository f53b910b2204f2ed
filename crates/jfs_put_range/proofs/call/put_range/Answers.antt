use Rattle.std.proofs.Common.{sym, ap, ◌∙◌, subst, Err}
use Rattle.jfs_disk.specs.Image.{Image, page_of}
use Rattle.jfs_tree.specs.Fresh.{blocks_of}
use Rattle.jfs_xtree.specs.Errors.{handed_on}
use Rattle.jfs_put_range.specs.Call.{WritesRange, KeepsLeast, NamesPages}
use Rattle.jfs_xtree.specs.Spells.{root_node}
use Rattle.jfs_put_range.specs.Tops.{NamesRoot}
use Rattle.jfs_put_range.specs.Way.{RangeTellsWay, broken_on_range}
use Rattle.jfs_put_range.proofs.Wayside.{clash_told, first_none, root_whole}
use Rattle.jfs_put_range.proofs.call.put_range.Goals as goal

pub returns-in-Ok-plan_range-clause-writes : goal.returns-in-Ok-plan_range-clause-writes
returns-in-Ok-plan_range-clause-writes g c tells =
    let p = c.in-Ok-plan_range.planned in
    subst (λ b. WritesRange b (page_of (g.V.PageView.image c.args.view.now)) c.args.xs.now c.args.root.now c.plan_range.new.root (blocks_of c.args.fresh.now) (blocks_of p.fresh) c.args.tx.now p.tx) c.in-Ok.ensures.count_of_blocks
    (subst (λ (i : Image). WritesRange (g.V.PageView.block_count c.look_along.new.view) (page_of i) c.args.xs.now c.args.root.now c.plan_range.new.root (blocks_of c.args.fresh.now) (blocks_of p.fresh) c.args.tx.now p.tx) (c.in-Ok.ensures.image tells)
    (c.in-Ok-plan_range.ensures.writes tells))

pub returns-in-Ok-plan_range-clause-thin : goal.returns-in-Ok-plan_range-clause-thin
returns-in-Ok-plan_range-clause-thin g c tells =
    let p = c.in-Ok-plan_range.planned in
    subst (λ b. KeepsLeast b (page_of (g.V.PageView.image c.args.view.now)) c.args.root.now c.plan_range.new.root (blocks_of c.args.fresh.now) c.args.tx.now p.tx) c.in-Ok.ensures.count_of_blocks
    (subst (λ (i : Image). KeepsLeast (g.V.PageView.block_count c.look_along.new.view) (page_of i) c.args.root.now c.plan_range.new.root (blocks_of c.args.fresh.now) c.args.tx.now p.tx) (c.in-Ok.ensures.image tells)
    (c.in-Ok-plan_range.ensures.thin tells))

pub returns-clause-way : goal.returns-clause-way
returns-clause-way g c tells =
    let first = broken_on_range (g.V.PageView.block_count c.args.view.now) (page_of (g.V.PageView.image c.args.view.now)) c.args.root.now c.args.xs.now in
    subst (λ e. RangeTellsWay first c.args.root.now (Err e)) (sym (c.handed_on.ensures ∙ ap handed_on c.as_clash.ensures))
    (let none = first_none (g.V.PageView.block_count c.args.view.now) (page_of (g.V.PageView.image c.args.view.now)) c.args.root.now c.args.xs.now c.as_slice.result.now c.as_slice-2.result.now c.first_of.result c.end_of_all.result
    c.first_of.ensures c.as_slice.ensures c.end_of_all.ensures c.as_slice-2.ensures (c.in-Ok.ensures.way tells) in
    clash_told first (root_node (g.V.PageView.block_count c.args.view.now) c.args.root.now) c.args.root.now c.in-Err-plan_range.e none
    (root_whole (g.V.PageView.block_count c.args.view.now) (page_of (g.V.PageView.image c.args.view.now)) c.args.root.now c.args.xs.now c.requires.range none)
    (subst (λ b. NamesRoot (root_node b c.args.root.now) c.args.root.now c.in-Err-plan_range.e) c.in-Ok.ensures.count_of_blocks c.in-Err-plan_range.ensures.names))

pub returns-in-Ok-plan_range-clause-named : goal.returns-in-Ok-plan_range-clause-named
returns-in-Ok-plan_range-clause-named g c tells =
    let p = c.in-Ok-plan_range.planned in
    subst (λ b. NamesPages b (page_of (g.V.PageView.image c.args.view.now)) c.args.root.now (blocks_of c.args.fresh.now) (blocks_of p.fresh) c.args.tx.now p.tx) c.in-Ok.ensures.count_of_blocks
    (subst (λ (i : Image). NamesPages (g.V.PageView.block_count c.look_along.new.view) (page_of i) c.args.root.now (blocks_of c.args.fresh.now) (blocks_of p.fresh) c.args.tx.now p.tx) (c.in-Ok.ensures.image tells)
    (c.in-Ok-plan_range.ensures.framed tells))
