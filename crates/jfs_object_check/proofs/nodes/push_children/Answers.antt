-- One child more.
use Rattle.std.proofs.Common.{sym, subst}
use Rattle.jfs_tree.specs.Form.{AllBelow}
use Rattle.jfs_xtree.specs.Node.{xt_node}
use Rattle.jfs_object_check.proofs.Beside.{below_push, child_pushed}
use Rattle.jfs_object_check.proofs.nodes.push_children.Goals as goal

pub loop-i-preserved : goal.loop-i-preserved
loop-i-preserved c =
    let i = c.loop-i.invariant in
    record {
      below = child_pushed (xt_node c.args.form.now.form c.args.form.now.blocks c.args.bytes.now) c.loop-i.i c.child-child.result c.args.below.now.items c.loop-i.below.items c.push.new.self.items c.child-child.ensures.is i.below c.in-Ok.ensures.items;
      within = λ all. subst (AllBelow c.args.form.now.blocks) (sym c.in-Ok.ensures.items) (below_push c.args.form.now.blocks c.child-child.result.page c.loop-i.below.items (i.within all) c.child-child.ensures.within);
    }
