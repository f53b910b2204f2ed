use Rattle.std.proofs.Common.{◌∙◌, sym, ap, subst, inl, inr, Err}
use Rattle.jfs_disk.specs.Image.{page_of}
use Rattle.jfs_way.specs.Answer.{is_open, Answers}
use Rattle.jfs_way.specs.Way.{name_from}
use Rattle.jfs_way.proofs.Enters.{enter_other, enter_found, enter_none, enter_fails, meets_other, meets_found, meets_none, meets_failed}
use Rattle.jfs_way.proofs.path.enter.Goals as goal

pub returns-then-not-has_names-clause-follows : goal.returns-then-not-has_names-clause-follows
returns-then-not-has_names-clause-follows g c tells within area map con some =
    inl (enter_other (g.V.PageView.block_count c.args.view.now) (page_of (g.V.PageView.image c.args.view.now)) area map c.args.inodes.now within con c.args.at.now c.requires.held (c.requires.shown tells) some
    (sym c.has_names.ensures ∙ c.if-not-has_names.true) c.args.name.now)

pub returns-then-not-has_names-clause-meets : goal.returns-then-not-has_names-clause-meets
returns-then-not-has_names-clause-meets g c tells =
    inl (meets_other (g.V.PageView.block_count c.args.view.now) (page_of (g.V.PageView.image c.args.view.now)) c.args.inodes.now c.args.at.now c.args.name.now (sym c.has_names.ensures ∙ c.if-not-has_names.true))

pub returns-in-Ok-Some-clause-follows : goal.returns-in-Ok-Some-clause-follows
returns-in-Ok-Some-clause-follows g c tells within area map con some =
    enter_found (g.V.PageView.block_count c.args.view.now) (page_of (g.V.PageView.image c.args.view.now)) area map c.args.inodes.now within con c.args.at.now c.requires.held (c.requires.shown tells) some
    c.root_in.result.now c.args.name.now c.in-Ok-Some.n c.load.result (sym c.has_names.ensures ∙ c.if-not-has_names.false) c.root_in.ensures.root
    (rw c.in-Ok-Some.field-0-is at c.in-Ok-Some.ensures.found tells) c.load.ensures.number (rw (c.find.ensures.count_of_blocks, c.find.ensures.image tells) at c.load.ensures.meets tells)

pub returns-in-Ok-Some-clause-meets : goal.returns-in-Ok-Some-clause-meets
returns-in-Ok-Some-clause-meets g c tells =
    meets_found (g.V.PageView.block_count c.args.view.now) (page_of (g.V.PageView.image c.args.view.now)) c.args.inodes.now c.args.at.now c.args.name.now c.root_in.result.now (sym c.has_names.ensures ∙ c.if-not-has_names.false) c.root_in.ensures.root
    c.in-Ok-Some.n c.load.result (c.in-Ok-Some.ensures.way tells) (rw c.in-Ok-Some.field-0-is at c.in-Ok-Some.ensures.on_way tells) (rw (c.find.ensures.count_of_blocks, c.find.ensures.image tells) at c.load.ensures.meets tells)

pub returns-in-Ok-None-clause-follows : goal.returns-in-Ok-None-clause-follows
returns-in-Ok-None-clause-follows g c tells within area map con some =
    inl (enter_none (g.V.PageView.block_count c.args.view.now) (page_of (g.V.PageView.image c.args.view.now)) area map c.args.inodes.now within con c.args.at.now c.requires.held (c.requires.shown tells) some
    c.root_in.result.now c.args.name.now (sym c.has_names.ensures ∙ c.if-not-has_names.false) c.root_in.ensures.root (rw c.in-Ok-None.field-0-is at c.in-Ok-None.ensures.found tells))

pub returns-in-Ok-None-clause-meets : goal.returns-in-Ok-None-clause-meets
returns-in-Ok-None-clause-meets g c tells =
    inl (meets_none (g.V.PageView.block_count c.args.view.now) (page_of (g.V.PageView.image c.args.view.now)) c.args.inodes.now c.args.at.now c.args.name.now c.root_in.result.now (sym c.has_names.ensures ∙ c.if-not-has_names.false) c.root_in.ensures.root
    (c.in-Ok-None.ensures.way tells) (rw c.in-Ok-None.field-0-is at c.in-Ok-None.ensures.on_way tells))

pub returns-in-Err-clause-follows : goal.returns-in-Err-clause-follows
returns-in-Err-clause-follows g c tells within area map con some =
    inr (ap is_open c.from_names.ensures.value ∙ enter_fails (g.V.PageView.block_count c.args.view.now) (page_of (g.V.PageView.image c.args.view.now)) area map c.args.inodes.now within con c.args.at.now c.requires.held (c.requires.shown tells) some
    c.root_in.result.now c.args.at.now.number c.args.at.now.page c.in-Err.e (sym c.has_names.ensures ∙ c.if-not-has_names.false) c.root_in.ensures.root (c.in-Err.ensures.bad tells))

pub returns-in-Err-clause-meets : goal.returns-in-Err-clause-meets
returns-in-Err-clause-meets g c tells =
    subst (λ why. Answers (name_from (g.V.PageView.block_count c.args.view.now) (page_of (g.V.PageView.image c.args.view.now)) c.args.inodes.now c.args.at.now c.args.name.now) (Err why)) (sym c.from_names.ensures.value)
    (meets_failed (g.V.PageView.block_count c.args.view.now) (page_of (g.V.PageView.image c.args.view.now)) c.args.inodes.now c.args.at.now c.args.name.now c.root_in.result.now (sym c.has_names.ensures ∙ c.if-not-has_names.false) c.root_in.ensures.root
    c.in-Err.e (c.in-Err.ensures.way tells) (c.in-Err.ensures.bad tells))
