use Rattle.std.proofs.Common.{arith}
use Rattle.jfs_put_range.proofs.Links.{steps_linked, fills_linked, refuses_read}
use Rattle.jfs_xtree.specs.Node.{xt_node}
use Rattle.jfs_put_range.proofs.RootFrames.{frames_linked, others_linked}
use Rattle.jfs_put_range.proofs.RootNames.{read_named}
use Rattle.jfs_tree.proofs.Drafts.{drafts_linked}
use Rattle.jfs_put_range.proofs.linked.put_linked.Goals as goal

pub returns-in-Ok-link_ends-clause-steps : goal.returns-in-Ok-link_ends-clause-steps
returns-in-Ok-link_ends-clause-steps g c = λ tells.
    steps_linked c.args.top.now.form c.args.top.now.blocks (g.V.PageView.image c.args.view.now) (g.V.PageView.image c.put_root.new.view) c.args.root.now c.put_root.new.root
    c.args.draft.now.pages.items c.put_root.new.draft.pages.items c.link_ends.new.draft.pages.items c.args.stack.now.items (c.in-Ok.ensures.image tells) (c.in-Ok-link_ends.ensures.links tells)
    c.args.xs.now c.put_root.new.stack.items (let s = c.requires.small in omega (arith, s)) (c.in-Ok.ensures.steps tells)

pub returns-in-Ok-link_ends-clause-filled : goal.returns-in-Ok-link_ends-clause-filled
returns-in-Ok-link_ends-clause-filled g c = λ tells.
    fills_linked c.args.top.now.form c.args.top.now.blocks (g.V.PageView.image c.args.view.now) (g.V.PageView.image c.put_root.new.view) c.args.root.now c.put_root.new.root
    c.args.draft.now.pages.items c.put_root.new.draft.pages.items c.link_ends.new.draft.pages.items c.args.stack.now.items (c.in-Ok.ensures.image tells) (c.in-Ok-link_ends.ensures.links tells) (c.in-Ok.ensures.filled tells)

pub returns-in-Err-link_ends-clause-refuses : goal.returns-in-Err-link_ends-clause-refuses
returns-in-Err-link_ends-clause-refuses g c = λ tells.
    refuses_read c.args.top.now.form c.args.top.now.blocks (g.V.PageView.image c.args.view.now) c.args.root.now c.args.draft.now.pages.items c.args.stack.now.items c.in-Err-link_ends.e c.in-Err-link_ends.ensures.cause

pub returns-in-Err-link_ends-clause-names : goal.returns-in-Err-link_ends-clause-names
returns-in-Err-link_ends-clause-names g c = read_named (xt_node c.args.top.now.form c.args.top.now.blocks c.args.root.now) c.args.root.now c.in-Err-link_ends.e c.in-Err-link_ends.ensures.cause

pub returns-in-Ok-link_ends-clause-framed : goal.returns-in-Ok-link_ends-clause-framed
returns-in-Ok-link_ends-clause-framed g c = λ tells.
    frames_linked c.args.top.now.form c.args.top.now.blocks (g.V.PageView.image c.args.view.now) (g.V.PageView.image c.put_root.new.view) c.args.root.now c.put_root.new.root
    c.args.draft.now.pages.items c.put_root.new.draft.pages.items c.link_ends.new.draft.pages.items c.args.stack.now.items c.put_root.new.stack.items (c.in-Ok.ensures.image tells) (c.in-Ok-link_ends.ensures.links tells) (c.in-Ok.ensures.framed tells)

pub returns-in-Ok-link_ends-clause-others : goal.returns-in-Ok-link_ends-clause-others
returns-in-Ok-link_ends-clause-others g c = λ tells.
    others_linked c.args.top.now.form c.args.top.now.blocks (g.V.PageView.image c.args.view.now) (g.V.PageView.image c.put_root.new.view) c.put_root.new.root
    c.args.draft.now.pages.items c.put_root.new.draft.pages.items c.link_ends.new.draft.pages.items c.args.stack.now.items c.put_root.new.stack.items (c.in-Ok.ensures.image tells) (c.in-Ok-link_ends.ensures.links tells) (c.in-Ok.ensures.others tells)

pub returns-in-Ok-link_ends-clause-drafted : goal.returns-in-Ok-link_ends-clause-drafted
returns-in-Ok-link_ends-clause-drafted g c =
    drafts_linked c.args.draft.now.pages.items c.put_root.new.draft.pages.items c.link_ends.new.draft.pages.items c.args.stack.now.items c.put_root.new.stack.items c.in-Ok.ensures.drafted c.in-Ok-link_ends.ensures.drafted
