use Rattle.jfs_tree.proofs.Adding.{grown_none, grown_some, grown_refused}
use Rattle.jfs_tree.proofs.FilledSteps.{grown_none_filled, grown_some_filled}
use Rattle.jfs_tree.proofs.Framing.{none_framed}
use Rattle.jfs_tree.proofs.Drafts.{drafts_none}
use Rattle.jfs_tree.proofs.grow.take_grown.Goals as goal

pub returns-in-None-clause-did : goal.returns-in-None-clause-did
returns-in-None-clause-did g c =
    grown_none (g.F.PageForm.node c.args.form.now) g.F.PageForm.scale g.met.F.PageForm.order c.args.bytes.0 c.args.page c.args.place c.args.grown.sibling c.args.draft.now.pages.items c.args.fresh.now.items c.in-None.is

pub returns-in-Ok-clause-did : goal.returns-in-Ok-clause-did
returns-in-Ok-clause-did g c =
    grown_some (g.F.PageForm.node c.args.form.now) g.F.PageForm.scale c.args.bytes.0 c.args.page c.args.place c.args.grown.sibling c.in-Ok.sibling c.in-Some.new c.args.draft.now.pages.items c.take_child.new.draft.pages.items c.args.fresh.now.items c.take_child.new.fresh.items
    c.in-Some.is c.in-Ok.ensures.did

pub returns-in-Err-clause-did : goal.returns-in-Err-clause-did
returns-in-Err-clause-did g c =
    grown_refused (g.F.PageForm.node c.args.form.now) g.F.PageForm.scale g.met.F.PageForm.order c.args.bytes.0 c.args.page c.args.place c.args.grown.sibling c.in-Some.new c.args.draft.now.pages.items c.take_child.new.draft.pages.items c.args.fresh.now.items c.take_child.new.fresh.items
    c.in-Err.e c.in-Some.is c.in-Err.ensures.did

pub returns-in-None-clause-filled : goal.returns-in-None-clause-filled
returns-in-None-clause-filled g c appends least fills =
    grown_none_filled appends least (g.F.PageForm.node c.args.form.now) g.F.PageForm.scale g.met.F.PageForm.order c.args.bytes.0 c.args.page c.args.place c.args.last c.args.grown.sibling c.args.draft.now.pages.items c.args.fresh.now.items c.in-None.is

pub returns-in-Ok-clause-filled : goal.returns-in-Ok-clause-filled
returns-in-Ok-clause-filled g c appends least fills =
    grown_some_filled appends least (g.F.PageForm.node c.args.form.now) g.F.PageForm.scale c.args.bytes.0 c.args.page c.args.place c.args.last c.args.grown.sibling c.in-Some.new c.args.draft.now.pages.items c.take_child.new.draft.pages.items c.args.fresh.now.items c.in-Ok.sibling c.in-Some.is (c.in-Ok.ensures.filled appends least fills)

pub returns-in-None-clause-framed : goal.returns-in-None-clause-framed
returns-in-None-clause-framed g c = none_framed (g.F.PageForm.frame c.args.form.now) (g.F.PageForm.new_frame c.args.form.now) c.args.bytes.0 c.args.page c.args.draft.now.pages.items c.args.fresh.now.items

pub returns-in-None-clause-drafted : goal.returns-in-None-clause-drafted
returns-in-None-clause-drafted g c = drafts_none c.args.draft.now.pages.items c.args.fresh.now.items
