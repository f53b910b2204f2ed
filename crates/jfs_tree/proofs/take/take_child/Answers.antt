use Rattle.std.proofs.Common.{sym, subst}
use Rattle.jfs_tree.specs.Removal.{HasChildAt}
use Rattle.jfs_tree.proofs.Taking.{child_kept}
use Rattle.jfs_tree.proofs.FilledSteps.{child_kept_filled}
use Rattle.jfs_tree.proofs.Framing.{one_framed}
use Rattle.jfs_tree.proofs.Drafts.{drafts_one}
use Rattle.jfs_tree.proofs.take.take_child.Goals as goal

pub returns-in_ok-put_one-in-Done-clause-did : goal.returns-in_ok-put_one-in-Done-clause-did
returns-in_ok-put_one-in-Done-clause-did g c =
    child_kept (g.F.PageForm.node c.args.form.now) g.F.PageForm.scale g.met.F.PageForm.order c.args.bytes.0 c.put_child.new.bytes c.args.page c.args.place c.args.sibling c.args.draft.now.pages.items c.put_one.new.draft.pages.items c.args.fresh.now.items
    c.in-Done.ensures.child c.in_ok-put_one-in-Done.ensures.puts

pub returns-in_ok-put_one-in-Done-clause-filled : goal.returns-in_ok-put_one-in-Done-clause-filled
returns-in_ok-put_one-in-Done-clause-filled g c appends least fills =
    child_kept_filled appends least (g.F.PageForm.node c.args.form.now) g.F.PageForm.scale g.met.F.PageForm.order c.args.bytes.0 c.put_child.new.bytes c.args.page c.args.place c.args.last c.args.sibling c.args.draft.now.pages.items c.put_one.new.draft.pages.items c.args.fresh.now.items
    c.in-Done.ensures.child c.in_ok-put_one-in-Done.ensures.puts

pub returns-in_ok-put_one-in-Done-clause-framed : goal.returns-in_ok-put_one-in-Done-clause-framed
returns-in_ok-put_one-in-Done-clause-framed g c =
    one_framed (g.F.PageForm.frame c.args.form.now) (g.F.PageForm.new_frame c.args.form.now) c.args.bytes.0 c.put_child.new.bytes c.args.page c.args.draft.now.pages.items c.put_one.new.draft.pages.items c.args.fresh.now.items
    c.in_ok-put_one-in-Done.ensures.puts c.put_child.ensures.frame

pub split_child-requires-clause-there : goal.split_child-requires-clause-there
split_child-requires-clause-there g c = subst (λ b. HasChildAt c.args.place (g.F.PageForm.node c.args.form.now b)) (sym c.in-Full.ensures.child.0) c.requires.there

pub returns-in_ok-put_one-in-Done-clause-drafted : goal.returns-in_ok-put_one-in-Done-clause-drafted
returns-in_ok-put_one-in-Done-clause-drafted g c = drafts_one c.args.draft.now.pages.items c.put_one.new.draft.pages.items c.args.page c.put_child.new.bytes c.args.fresh.now.items c.in_ok-put_one-in-Done.ensures.puts
