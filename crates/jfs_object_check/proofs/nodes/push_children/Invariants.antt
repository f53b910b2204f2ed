-- The children before the loop's one stand in the list.
use Rattle.std.proofs.Common.{◌≡◌, ◌++◌, take}
use Rattle.jfs_tree.specs.Form.{AllBelow}
use Rattle.jfs_tree.specs.Levels.{pages_below}
use Rattle.jfs_xtree.specs.Node.{xt_node}
use Rattle.jfs_object_check.proofs.nodes.push_children.Given as goal

abbrev pub invariant-loop-i : goal.invariant-loop-i
invariant-loop-i l = record {
  below : l.below.items ≡ l.fn.below.items ++ take l.i (pages_below (xt_node l.form.form l.form.blocks l.bytes));
  within : AllBelow l.form.blocks l.fn.below.items → AllBelow l.form.blocks l.below.items;
}
