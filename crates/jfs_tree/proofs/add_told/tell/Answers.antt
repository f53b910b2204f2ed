use Rattle.jfs_tree.proofs.Changed.{changes_taken}
use Rattle.jfs_tree.proofs.add_told.tell.Goals as goal

pub returns-in-Ok-take_pages-clause-edits : goal.returns-in-Ok-take_pages-clause-edits
returns-in-Ok-take_pages-clause-edits g c tells =
    changes_taken (g.V.PageView.block_count c.args.view.now) (g.V.PageView.image c.args.view.now) c.args.kind c.args.draft.now.pages.items c.args.tx.now c.in-Ok.later c.tell_draft.new.tx c.take_pages.new.tx c.args.taken.now
    c.in-Ok.ensures c.in-Ok-take_pages.ensures c.requires.drafted (c.in_ok-tell_draft.ensures.edits tells) (c.in_ok-tell_draft.ensures.told tells)
