use Rattle.jfs_tree.proofs.Taking.{here_kept}
use Rattle.jfs_tree.proofs.FilledSteps.{here_kept_filled}
use Rattle.jfs_tree.proofs.Framing.{one_framed}
use Rattle.jfs_tree.proofs.Drafts.{drafts_one}
use Rattle.jfs_tree.proofs.take.take_here.Goals as goal

pub returns-in_ok-put_one-in-Done-clause-did : goal.returns-in_ok-put_one-in-Done-clause-did
returns-in_ok-put_one-in-Done-clause-did g c =
    here_kept (g.F.PageForm.node c.args.form.now) g.F.PageForm.scale g.met.F.PageForm.order c.args.x.now c.args.bytes.0 c.put.new.bytes c.args.page c.args.draft.now.pages.items c.put_one.new.draft.pages.items c.args.fresh.now.items
    c.in-Done.ensures.row c.in_ok-put_one-in-Done.ensures.puts

pub returns-in_ok-put_one-in-Done-clause-filled : goal.returns-in_ok-put_one-in-Done-clause-filled
returns-in_ok-put_one-in-Done-clause-filled g c appends least fills =
    here_kept_filled appends least (g.F.PageForm.node c.args.form.now) g.F.PageForm.scale g.met.F.PageForm.order c.args.x.now c.args.bytes.0 c.put.new.bytes c.args.page c.args.last c.args.draft.now.pages.items c.put_one.new.draft.pages.items c.args.fresh.now.items
    c.in-Done.ensures.row c.in_ok-put_one-in-Done.ensures.puts

pub returns-in_ok-put_one-in-Done-clause-framed : goal.returns-in_ok-put_one-in-Done-clause-framed
returns-in_ok-put_one-in-Done-clause-framed g c =
    one_framed (g.F.PageForm.frame c.args.form.now) (g.F.PageForm.new_frame c.args.form.now) c.args.bytes.0 c.put.new.bytes c.args.page c.args.draft.now.pages.items c.put_one.new.draft.pages.items c.args.fresh.now.items
    c.in_ok-put_one-in-Done.ensures.puts c.put.ensures.frame

pub returns-in_ok-put_one-in-Done-clause-drafted : goal.returns-in_ok-put_one-in-Done-clause-drafted
returns-in_ok-put_one-in-Done-clause-drafted g c = drafts_one c.args.draft.now.pages.items c.put_one.new.draft.pages.items c.args.page c.put.new.bytes c.args.fresh.now.items c.in_ok-put_one-in-Done.ensures.puts
