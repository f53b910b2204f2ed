use Rattle.std.proofs.Common.{subst, not}
use Rattle.jfs_tree.specs.Removal.{TellsSingle}
use Rattle.jfs_tree.proofs.Losing.{here_lost}
use Rattle.jfs_tree.proofs.LeastKept.{leaf_answers}
use Rattle.jfs_tree.proofs.Framing.{settled_framed}
use Rattle.jfs_tree.proofs.removal.remove_here.Goals as goal

pub returns-clause-did : goal.returns-clause-did
returns-clause-did g c =
    here_lost (g.F.PageForm.node c.args.form.now) g.F.PageForm.scale g.met.F.PageForm.order g.met.F.PageLoss.loose c.args.x.now c.in-Some.entry c.args.bytes.0 c.remove.new.bytes c.args.page
    c.args.draft.now.pages.items c.settle.new.draft.pages.items c.args.freed.now.items c.settle.new.freed.items c.is_single-alone.result
    c.in-Some.ensures.takes (subst (λ b. TellsSingle (g.F.PageForm.node c.args.form.now b) c.is_single-alone.result) c.bytes.ensures.value c.is_single-alone.ensures) c.in_ok-settle.ensures.settles

pub returns-clause-inner : goal.returns-clause-inner
returns-clause-inner g c image read =
    leaf_answers (g.F.PageForm.node c.args.form.now) g.F.PageForm.scale c.args.x.now c.in-Some.entry image c.args.draft.now.pages.items c.settle.new.draft.pages.items c.args.page c.args.bytes.0 c.remove.new.bytes (not c.is_single-alone.result)
    c.args.freed.now.items c.settle.new.freed.items c.in_ok-settle.ensures.settles c.requires.leaf c.in-Some.ensures.takes read

pub returns-clause-framed : goal.returns-clause-framed
returns-clause-framed g c =
    settled_framed (g.F.PageForm.frame c.args.form.now) (not c.is_single-alone.result) c.args.page c.args.bytes.0 c.remove.new.bytes c.args.draft.now.pages.items c.settle.new.draft.pages.items c.args.freed.now.items c.settle.new.freed.items c.in_ok-settle.ensures.settles c.remove.ensures.frame
