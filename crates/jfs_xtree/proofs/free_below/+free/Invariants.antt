use Rattle.std.proofs.Common.{◌≡◌, ◌+◌, ◌*◌}
use Rattle.jfs_disk.specs.Image.{page_of}
use Rattle.jfs_xtpage.specs.Page.{entries_of}
use Rattle.jfs_xtree.specs.Spells.{page_nodes}
use Rattle.jfs_xtree.specs.CutParts.{children_from}
use Rattle.jfs_xtree.proofs.CutFrees.{GoesOnFrom}
use Rattle.jfs_xtree.proofs.free_below.+free.Given as goal

abbrev pub decreases-free_children : goal.decreases-free_children
decreases-free_children g l = 2 * l.below + 1

abbrev pub decreases-free_page : goal.decreases-free_page
decreases-free_page g l = 2 * l.below

abbrev pub invariant-free_children-loop-i : goal.invariant-free_children-loop-i
invariant-free_children-loop-i g l =
    (g.V.PageView.tells → g.V.PageView.image l.view ≡ g.V.PageView.image l.fn.view) × (g.V.PageView.block_count l.view ≡ g.V.PageView.block_count l.fn.view) × (g.V.PageView.faults l.view ≡ g.V.PageView.faults l.fn.view)
    × (l.cut.draft.pages.items ≡ l.fn.cut.draft.pages.items) × (l.i ≡ 0 → l.cut.met ≡ l.fn.cut.met)
    × (g.V.PageView.tells → GoesOnFrom l.fn.cut.met (children_from (page_nodes l.blocks (page_of (g.V.PageView.image l.fn.view))) l.below l.fn.from l.fn.cut.met (entries_of l.bytes)) l.fn.cut.pages.items l.fn.cut.runs
    l.cut.met (children_from (page_nodes l.blocks (page_of (g.V.PageView.image l.fn.view))) l.below l.i l.fn.cut.met (entries_of l.bytes)) l.cut.pages.items l.cut.runs)
    × (g.V.PageView.device l.view ≡ g.V.PageView.device l.fn.view)
