use Rattle.std.proofs.Common.{◌≡◌, ◌+◌, ◌*◌}
use Rattle.jfs_tree.specs.Call.{pages_of}
use Rattle.jfs_tree.specs.Walking.{OthersGoOn, children_in}
use Rattle.jfs_tree.proofs.walk_down.+walk.Given as goal

abbrev pub decreases-walk_others : goal.decreases-walk_others
decreases-walk_others g l = 2 * l.below + 1

abbrev pub decreases-walk_page : goal.decreases-walk_page
decreases-walk_page g l = 2 * l.below

abbrev pub invariant-walk_others-loop-i : goal.invariant-walk_others-loop-i
invariant-walk_others-loop-i g l =
    (g.V.PageView.tells → g.V.PageView.image l.view ≡ g.V.PageView.image l.fn.view) × (g.V.PageView.block_count l.view ≡ g.V.PageView.block_count l.fn.view) × (g.V.PageView.faults l.view ≡ g.V.PageView.faults l.fn.view)
    × (g.V.PageView.tells → OthersGoOn g.F.PageForm.scale g.W.Visitor.sees_page g.W.Visitor.sees_entry (pages_of (g.F.PageForm.node l.form) (g.V.PageView.image l.fn.view)) l.below (children_in (g.F.PageForm.node l.above l.bytes)) l.i
    (g.F.PageRead.place l.fn.low) l.fn.visitor (g.F.PageRead.place l.low) l.visitor)
    × (g.V.PageView.device l.view ≡ g.V.PageView.device l.fn.view)
