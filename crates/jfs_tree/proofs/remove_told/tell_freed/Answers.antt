use Rattle.jfs_tree.proofs.Changed.{changes_freed}
use Rattle.jfs_tree.proofs.remove_told.tell_freed.Goals as goal

pub returns-in-Ok-free_pages-clause-changes : goal.returns-in-Ok-free_pages-clause-changes
returns-in-Ok-free_pages-clause-changes g c tells =
    changes_freed (g.V.PageView.block_count c.args.view.now) (g.V.PageView.image c.args.view.now) c.args.kind c.args.draft.now.pages.items c.args.tx.now c.in-Ok.later c.tell_draft.new.tx c.free_pages.new.tx c.args.freed.now
    c.in-Ok.ensures c.in-Ok-free_pages.ensures (c.in_ok-tell_draft.ensures.edits tells) (c.in_ok-tell_draft.ensures.told tells)
