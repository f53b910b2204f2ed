use Rattle.jfs_disk.specs.Image.{page_of}
use Rattle.jfs_create.specs.Seat.{needs_run}
use Rattle.jfs_create.proofs.Reserving.{suits_run, run_within, map_after, made_reserved, not_made_by}
use Rattle.jfs_create.proofs.Sites.{fits_at}
use Rattle.jfs_create.proofs.reserve.make_reserved.Goals as goal

pub plan_of-plan-requires : goal.plan_of-plan-requires
plan_of-plan-requires g c =
    let claims = rw c.needs_run.ensures at c.in-Ok.ensures.claims in
    suits_run (g.V.PageView.block_count c.args.view.now) c.args.blocks.now c.args.draft.site c.in-Ok.claim.run c.in-Ok.claim.blocks c.requires.map c.requires.site claims.run claims.reserves.within

pub make-requires-clause-page : goal.make-requires-clause-page
make-requires-clause-page g c =
    let claims = rw c.needs_run.ensures at c.in-Ok.ensures.claims in
    let suits = suits_run (g.V.PageView.block_count c.args.view.now) c.args.blocks.now c.args.draft.site c.in-Ok.claim.run c.in-Ok.claim.blocks c.requires.map c.requires.site claims.run claims.reserves.within in
    (fits_at (g.V.PageView.block_count c.args.view.now) c.args.draft c.args.draft.site c.in-Ok.claim.run c.plan_of-plan.result c.requires.site suits
    (run_within (g.V.PageView.block_count c.args.view.now) c.args.blocks.now c.in-Ok.claim.run c.in-Ok.claim.blocks c.requires.map (needs_run c.args.draft.site) claims.run claims.reserves.within) c.plan_of-plan.ensures).page

pub returns-in-Ok-make-clause-makes : goal.returns-in-Ok-make-clause-makes
returns-in-Ok-make-clause-makes g c tells =
    let claims = rw c.needs_run.ensures at c.in-Ok.ensures.claims in
    let suits = suits_run (g.V.PageView.block_count c.args.view.now) c.args.blocks.now c.args.draft.site c.in-Ok.claim.run c.in-Ok.claim.blocks c.requires.map c.requires.site claims.run claims.reserves.within in
    let makes = c.in-Ok-make.ensures.makes tells in
    made_reserved c.args.blocks.now c.take.new.map c.args.draft c.in-Ok.claim claims c.in-Ok.ensures.fresh (g.V.PageView.block_count c.args.view.now) (page_of (g.V.PageView.image c.args.view.now)) c.args.dir.now c.args.name.now
    c.plan_of-plan.result suits c.plan_of-plan.ensures (rw c.needs_run.ensures at c.in-Ok.ensures.free) c.make.new.fresh c.in-Ok-make.tx makes (c.settle.ensures c.args.blocks.now makes.gains.edits.0)

pub returns-in-Ok-make-clause-map : goal.returns-in-Ok-make-clause-map
returns-in-Ok-make-clause-map g c =
    let claims = rw c.needs_run.ensures at c.in-Ok.ensures.claims in
    let front = c.in-Ok-make.ensures.taken in
    map_after c.args.blocks.now c.take.new.map c.args.draft c.in-Ok.claim claims c.in-Ok.ensures.fresh c.make.new.fresh front.0 front.1 (c.settle.ensures c.args.blocks.now front.0)

pub returns-clause-stopped : goal.returns-clause-stopped
returns-clause-stopped g c tells =
    let claims = rw c.needs_run.ensures at c.in-Ok.ensures.claims in
    let suits = suits_run (g.V.PageView.block_count c.args.view.now) c.args.blocks.now c.args.draft.site c.in-Ok.claim.run c.in-Ok.claim.blocks c.requires.map c.requires.site claims.run claims.reserves.within in
    not_made_by c.args.blocks.now c.take.new.map c.args.draft c.in-Ok.claim claims c.in-Ok.ensures.fresh (g.V.PageView.block_count c.args.view.now) (page_of (g.V.PageView.image c.args.view.now)) c.args.dir.now c.args.name.now
    c.plan_of-plan.result suits c.plan_of-plan.ensures c.in-Err.e (c.in-Err.ensures.refused tells)
