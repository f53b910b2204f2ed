use Rattle.std.proofs.Common.{◌≡◌, refl, ◌<◌, ◌-◌, ◌∙◌, ℕ, List, [], length, get_or, IfOk, IfErr, arith}
use Rattle.std.proofs.lemmas.List.{get_or_read_under}
use Rattle.jfs_disk.specs.Image.{page_of}
use Rattle.jfs_link.specs.steps.specs.Place.{last_of}
use Rattle.jfs_create.specs.Reserved.{MakesReserved, NotMade, IsMade, IsStopped, draft_of}
use Rattle.jfs_create.proofs.Steps.{links_fit, moved, if_err, if_ok, stopped_site, stopped_rest, is_made, no_site, steps}
use Rattle.jfs_create.proofs.calls.make_object.Goals as goal

last : (path : List (List ℕ)) (name : List ℕ) → 0 < length path → name ≡ get_or path (length path - 1) name → name ≡ last_of path
last path name some h = get_or_read_under path (length path - 1) (length path) name [] h (omega (arith, some)) refl

pub returns-in-Err-site_of-clause-stopped : goal.returns-in-Err-site_of-clause-stopped
returns-in-Err-site_of-clause-stopped g c tells = stopped_site (g.V.PageView.block_count c.args.view.now) (page_of (g.V.PageView.image c.args.view.now)) c.args.inodes.now c.args.path.now c.args.object c.args.now c.args.blocks.now c.in-Ok.seen (c.in-Ok.ensures.passes tells) c.in-Err-site_of.e (rw (c.look.ensures.count_of_blocks, c.look.ensures.image tells) at (c.in-Err-site_of.ensures.meets tells))

pub returns-in-Err-site_of-clause-steps : goal.returns-in-Err-site_of-clause-steps
returns-in-Err-site_of-clause-steps g c tells = no_site (g.V.PageView.block_count c.args.view.now) (page_of (g.V.PageView.image c.args.view.now)) c.args.blocks.now c.args.inodes.now (g.met.V.PageView.has_pages c.args.view.now tells) c.args.object c.requires.object c.args.path.now c.args.now c.in-Ok.seen
    c.in-Ok.ensures.held (c.in-Ok.ensures.shown tells) c.in-Ok.ensures.directory (c.in-Ok.ensures.passes tells) (λ many rest within area con log_pages. c.in-Ok.ensures.room tells many rest within area con log_pages c.args.now) c.in-Err-site_of.e (rw (c.look.ensures.count_of_blocks, c.look.ensures.image tells) at (c.in-Err-site_of.ensures.meets tells))

pub make_reserved-requires-clause-links : goal.make_reserved-requires-clause-links
make_reserved-requires-clause-links g c = links_fit (g.V.PageView.block_count c.args.view.now) c.args.inodes.now c.in-Ok.seen.dir c.in-Ok.ensures.held

pub returns-clause-made : goal.returns-clause-made
returns-clause-made g c tells = if_ok (MakesReserved (g.V.PageView.block_count c.args.view.now) (page_of (g.V.PageView.image c.args.view.now)) c.in-Ok.seen.dir (last_of c.args.path.now) (draft_of c.args.object c.in-Ok-site_of.site c.args.now) c.args.blocks.now c.make_reserved.new.blocks)
    (IsMade (g.V.PageView.block_count c.args.view.now) (page_of (g.V.PageView.image c.args.view.now)) c.args.inodes.now c.args.path.now c.args.object c.args.now c.args.blocks.now c.make_reserved.new.blocks) c.make_reserved.result
    (is_made (g.V.PageView.block_count c.args.view.now) (page_of (g.V.PageView.image c.args.view.now)) c.args.inodes.now c.args.path.now c.args.object c.args.now c.args.blocks.now c.in-Ok.seen (c.in-Ok.ensures.passes tells) c.make_reserved.new.blocks c.in-Ok-site_of.site (rw (c.look.ensures.count_of_blocks, c.look.ensures.image tells) at (c.in-Ok-site_of.ensures.meets tells))) (moved (λ b i n. IfOk c.make_reserved.result (MakesReserved b (page_of i) c.in-Ok.seen.dir n (draft_of c.args.object c.in-Ok-site_of.site c.args.now) c.args.blocks.now c.make_reserved.new.blocks)) (g.V.PageView.block_count c.args.view.now) (g.V.PageView.block_count c.site_of.new.view) (g.V.PageView.image c.args.view.now) (g.V.PageView.image c.site_of.new.view)
    c.index-path-path.result (last_of c.args.path.now) (c.site_of.ensures.count_of_blocks ∙ c.look.ensures.count_of_blocks) (c.site_of.ensures.image tells ∙ c.look.ensures.image tells) (last c.args.path.now c.index-path-path.result c.in-Ok.ensures.some c.index-path-path.is) (c.make_reserved.ensures.makes tells))

pub returns-clause-stopped : goal.returns-clause-stopped
returns-clause-stopped g c tells = if_err (NotMade (g.V.PageView.block_count c.args.view.now) (page_of (g.V.PageView.image c.args.view.now)) c.in-Ok.seen.dir (last_of c.args.path.now) (draft_of c.args.object c.in-Ok-site_of.site c.args.now) c.args.blocks.now)
    (IsStopped (g.V.PageView.block_count c.args.view.now) (page_of (g.V.PageView.image c.args.view.now)) c.args.inodes.now c.args.path.now c.args.object c.args.now c.args.blocks.now) c.make_reserved.result
    (stopped_rest (g.V.PageView.block_count c.args.view.now) (page_of (g.V.PageView.image c.args.view.now)) c.args.inodes.now c.args.path.now c.args.object c.args.now c.args.blocks.now c.in-Ok.seen (c.in-Ok.ensures.passes tells) c.in-Ok-site_of.site (rw (c.look.ensures.count_of_blocks, c.look.ensures.image tells) at (c.in-Ok-site_of.ensures.meets tells))) (moved (λ b i n. IfErr c.make_reserved.result (NotMade b (page_of i) c.in-Ok.seen.dir n (draft_of c.args.object c.in-Ok-site_of.site c.args.now) c.args.blocks.now)) (g.V.PageView.block_count c.args.view.now) (g.V.PageView.block_count c.site_of.new.view) (g.V.PageView.image c.args.view.now) (g.V.PageView.image c.site_of.new.view)
    c.index-path-path.result (last_of c.args.path.now) (c.site_of.ensures.count_of_blocks ∙ c.look.ensures.count_of_blocks) (c.site_of.ensures.image tells ∙ c.look.ensures.image tells) (last c.args.path.now c.index-path-path.result c.in-Ok.ensures.some c.index-path-path.is) (c.make_reserved.ensures.stopped tells))

pub returns-clause-steps : goal.returns-clause-steps
returns-clause-steps g c tells = steps (g.V.PageView.block_count c.args.view.now) (page_of (g.V.PageView.image c.args.view.now)) c.args.blocks.now c.args.inodes.now (g.met.V.PageView.has_pages c.args.view.now tells) c.args.object c.requires.object c.args.path.now c.args.now c.in-Ok.seen
    c.in-Ok.ensures.held (c.in-Ok.ensures.shown tells) c.in-Ok.ensures.directory (c.in-Ok.ensures.passes tells) (λ many rest within area con log_pages. c.in-Ok.ensures.room tells many rest within area con log_pages c.args.now) c.in-Ok-site_of.site (rw (c.look.ensures.count_of_blocks, c.look.ensures.image tells) at (c.in-Ok-site_of.ensures.meets tells)) c.make_reserved.new.blocks c.make_reserved.result
    (moved (λ b i n. IfOk c.make_reserved.result (MakesReserved b (page_of i) c.in-Ok.seen.dir n (draft_of c.args.object c.in-Ok-site_of.site c.args.now) c.args.blocks.now c.make_reserved.new.blocks)) (g.V.PageView.block_count c.args.view.now) (g.V.PageView.block_count c.site_of.new.view) (g.V.PageView.image c.args.view.now) (g.V.PageView.image c.site_of.new.view)
    c.index-path-path.result (last_of c.args.path.now) (c.site_of.ensures.count_of_blocks ∙ c.look.ensures.count_of_blocks) (c.site_of.ensures.image tells ∙ c.look.ensures.image tells) (last c.args.path.now c.index-path-path.result c.in-Ok.ensures.some c.index-path-path.is) (c.make_reserved.ensures.makes tells))
    (moved (λ b i n. IfErr c.make_reserved.result (NotMade b (page_of i) c.in-Ok.seen.dir n (draft_of c.args.object c.in-Ok-site_of.site c.args.now) c.args.blocks.now)) (g.V.PageView.block_count c.args.view.now) (g.V.PageView.block_count c.site_of.new.view) (g.V.PageView.image c.args.view.now) (g.V.PageView.image c.site_of.new.view)
    c.index-path-path.result (last_of c.args.path.now) (c.site_of.ensures.count_of_blocks ∙ c.look.ensures.count_of_blocks) (c.site_of.ensures.image tells ∙ c.look.ensures.image tells) (last c.args.path.now c.index-path-path.result c.in-Ok.ensures.some c.index-path-path.is) (c.make_reserved.ensures.stopped tells))
