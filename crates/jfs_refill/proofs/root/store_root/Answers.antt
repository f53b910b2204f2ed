use Rattle.std.proofs.Common.{◌+◌, length, arith}
use Rattle.jfs_refill.proofs.Rooting.{frame_kept, has_settled, moves_settled_by, moves_kept}
use Rattle.jfs_tree.proofs.Drafts.{drafts_none}
use Rattle.jfs_refill.proofs.root.store_root.Goals as goal

pub returns-then-list-from-clause-settled : goal.returns-then-list-from-clause-settled
returns-then-list-from-clause-settled c = λ form blocks top within good.
    has_settled form blocks c.args.levels c.args.list.now c.args.root.now c.refill.new.bytes c.args.draft.now.pages.items c.args.stack.now.items good
    (record { room = (let t = c.if-list-from.true in let f = c.from.ensures in let v = c.get_u16.ensures.value in omega (arith, t, f, v)); entries = c.refill.ensures.entries; head = c.refill.ensures.head })

pub returns-clause-settled : goal.returns-clause-settled
returns-clause-settled c = λ form blocks top within good.
    moves_settled_by c.move_down.result form blocks c.args.levels c.args.list.now c.args.root.now c.move_down.new.root c.args.draft.now.pages.items c.move_down.new.draft.pages.items c.args.stack.now.items c.move_down.new.stack.items
    top within good c.requires.most c.requires.slots (let l = c.if-levels-ge8.false in omega (arith, l)) c.move_down.ensures.moves

pub returns-clause-keeps : goal.returns-clause-keeps
returns-clause-keeps c =
    moves_kept c.move_down.result c.args.list.now c.args.root.now c.move_down.new.root c.args.draft.now.pages.items c.move_down.new.draft.pages.items c.args.stack.now.items c.move_down.new.stack.items c.move_down.ensures.moves

pub returns-then-list-from-clause-frame : goal.returns-then-list-from-clause-frame
returns-then-list-from-clause-frame c = frame_kept c.args.root.now c.refill.new.bytes (length c.args.list.now + 2) c.refill.ensures.head c.refill.ensures.tail

pub returns-then-list-from-clause-drafted : goal.returns-then-list-from-clause-drafted
returns-then-list-from-clause-drafted c = drafts_none c.args.draft.now.pages.items c.args.stack.now.items
