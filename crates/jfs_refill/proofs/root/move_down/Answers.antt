use Rattle.jfs_refill.proofs.Rooting.{frame_moved}
use Rattle.jfs_tree.proofs.Drafts.{drafts_moved}
use Rattle.jfs_refill.proofs.root.move_down.Goals as goal

pub returns-clause-frame : goal.returns-clause-frame
returns-clause-frame c = frame_moved c.args.root.now c.xt_set_kind.new.bytes c.refill-2.new.bytes _ _ c.xt_set_kind.ensures.head (c.xt_set_kind.ensures.tail c.requires.page) c.refill-2.ensures.head c.refill-2.ensures.tail

pub returns-clause-drafted : goal.returns-clause-drafted
returns-clause-drafted c =
    drafts_moved c.args.draft.now.pages.items c.put_one.new.draft.pages.items c.in-Some.q c.refill.new.bytes c.args.stack.now.items c.pop.new.self.items c.put_one.result c.put_one.ensures.puts c.in-Some.ensures.items
