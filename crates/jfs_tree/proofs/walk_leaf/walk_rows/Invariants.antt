use Rattle.std.proofs.Common.{map, drop}
use Rattle.jfs_tree.specs.Walk.{Row}
use Rattle.jfs_tree.specs.Walking.{GoesOn, rows_in}
use Rattle.jfs_tree.proofs.walk_leaf.walk_rows.Given as goal

abbrev pub invariant-loop-i : goal.invariant-loop-i
invariant-loop-i g l = GoesOn g.F.PageForm.scale g.W.Visitor.sees_page g.W.Visitor.sees_entry (g.F.PageRead.place l.fn.low) l.fn.visitor (map (Row l.fn.page) (rows_in (g.F.PageForm.node l.form l.bytes)))
    (g.F.PageRead.place l.low) l.visitor (map (Row l.fn.page) (drop l.i (rows_in (g.F.PageForm.node l.form l.bytes))))
