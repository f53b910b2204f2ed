use Rattle.std.proofs.Common.{◌≡◌, take}
use Rattle.jfs_tree.specs.Tell.{TellsDraft, TellsLines}
use Rattle.jfs_tree.proofs.DraftEdited.{DraftSoFar}
use Rattle.jfs_tree.proofs.tell_all.tell_draft.Given as goal

abbrev pub invariant-loop-i : goal.invariant-loop-i
invariant-loop-i g l =
    (g.V.PageView.tells → g.V.PageView.image l.view ≡ g.V.PageView.image l.fn.view) × (g.V.PageView.block_count l.view ≡ g.V.PageView.block_count l.fn.view) × (g.V.PageView.faults l.view ≡ g.V.PageView.faults l.fn.view)
    × (g.V.PageView.tells → TellsDraft (g.V.PageView.block_count l.fn.view) (g.V.PageView.image l.fn.view) (take l.i l.draft.pages.items) l.fn.tx l.tx)
    × (g.V.PageView.tells → DraftSoFar (g.V.PageView.block_count l.fn.view) (g.V.PageView.image l.fn.view) l.taken l.kind l.draft.pages.items l.i l.fn.tx l.tx)
    × TellsLines l.fn.tx l.tx × (g.V.PageView.device l.view ≡ g.V.PageView.device l.fn.view)
