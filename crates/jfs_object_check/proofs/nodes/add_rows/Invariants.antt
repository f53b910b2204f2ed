-- The extents before the loop's one are counted.
use Rattle.std.proofs.Common.{take}
use Rattle.jfs_tree.specs.Walking.{rows_in}
use Rattle.jfs_xtree.specs.Node.{xt_node}
use Rattle.jfs_owners.specs.objects.specs.Owners.{covers}
use Rattle.jfs_owners.specs.Counts.{Adds}
use Rattle.jfs_object_check.proofs.nodes.add_rows.Given as goal

abbrev pub invariant-loop-i : goal.invariant-loop-i
invariant-loop-i l = record { held : Adds (λ b. covers b (take l.i (rows_in (xt_node l.form.form l.form.blocks l.bytes)))) l.fn.owners l.owners }
