use Rattle.std.proofs.Common.{arith}
use Rattle.jfs_disk.specs.Image.{page_of}
use Rattle.jfs_tree.specs.Path.{broken_on_way}
use Rattle.jfs_xtree.specs.Node.{xt_scale, xt_node}
use Rattle.jfs_xtree.specs.Spells.{page_nodes}
use Rattle.jfs_ways.proofs.Ways.{rest_tells, same_broken, until_err}
use Rattle.jfs_ways.proofs.along.+look_from.Goals as goal

pub returns-in-Ok-clause-way : goal.returns-in-Ok-clause-way
returns-in-Ok-clause-way g t c tells =
    let blocks = c.args.top.now.blocks in
    let root = xt_node c.args.top.now.form blocks c.args.root.now in
    rest_tells (λ k. broken_on_way xt_scale (page_nodes blocks (page_of (g.V.PageView.image c.args.view.now))) k root) (λ k. broken_on_way xt_scale (page_nodes blocks (page_of (g.V.PageView.image c.look_down.new.view))) k root)
    c.args.at c.in-Ok.next c.args.end c.look_from.result (same_broken blocks root (g.V.PageView.image c.args.view.now) (g.V.PageView.image c.look_down.new.view) (c.in-Ok.ensures.image tells)) c.in-Ok.ensures.until (c.in-Ok.ensures.way tells) (c.look_from.ensures.way tells)

pub returns-in-Err-clause-way : goal.returns-in-Err-clause-way
returns-in-Err-clause-way g t c tells =
    let blocks = c.args.top.now.blocks in
    let root = xt_node c.args.top.now.form blocks c.args.root.now in
    until_err (λ k. broken_on_way xt_scale (page_nodes blocks (page_of (g.V.PageView.image c.args.view.now))) k root) c.args.at c.args.end c.in-Err.e (let h = c.if-at-end.false in omega (arith, h)) (c.in-Err.ensures.way tells)
