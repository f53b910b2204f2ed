use Rattle.std.proofs.Common.{◌≡◌, ◌+◌, ◌*◌, ◌^◌, inl, inr, arith}
use Rattle.std.proofs.lemmas.Nat.{pow_pos, pow-add}
use Rattle.jfs_imap.proofs.Trees.{tree-small, node-inner, next-before}
use Rattle.jfs_imap.proofs.summary.first_leaf.Goals as goal

pub child_of-node-requires-clause-small : goal.child_of-node-requires-clause-small
child_of-node-requires-clause-small c = tree-small c.args.height c.args.leaves c.args.nodes.now c.requires.tree

pub child_of-node-requires-clause-inner : goal.child_of-node-requires-clause-inner
child_of-node-requires-clause-inner c =
    let i = c.loop-level.invariant in
    (omega (arith, i.low, pow_pos c.loop-level._level), node-inner c.args.height c.args.leaves c.args.nodes.now c.requires.tree c.loop-level._level c.loop-level.node c.loop-level-test.true i.high)

pub loop-level-preserved : goal.loop-level-preserved
loop-level-preserved c =
    let i = c.loop-level.invariant in
    let l = c.loop-level._level in
    let low = i.low in
    let high = i.high in
    let pos = pow_pos l in
    let wide : 2 ^ (l + 1) ≡ 2 * 2 ^ l = omega (arith, pow-add 2 l 1) in
    record {
      low = elim c.child_of-node.ensures.which [ inl e ↦ omega (arith, wide, e) | inr e ↦ omega (arith, wide, e.0) ];
      high = elim c.child_of-node.ensures.which [ inl e ↦ omega (arith, wide, e) | inr e ↦ omega (arith, wide, e.0) ];
      marked = c.child_of-node.ensures.marked;
      before = next-before c.args.height c.args.leaves c.args.nodes.now c.requires.tree l c.loop-level.node c.child_of-node.result c.loop-level-test.true (omega arith) high c.child_of-node.ensures.which i.before;
    }
