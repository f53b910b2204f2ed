use Rattle.std.proofs.Common.{◌≡◌, refl, ◌<◌, ◌-◌, ◌∙◌, sym, ap, inl, inr, ℕ, List, [], length, get_or, Some, None, Err, subst, arith}
use Rattle.std.proofs.lemmas.List.{get_or_read_under}
use Rattle.jfs_disk.specs.Image.{page_of}
use Rattle.jfs_way.specs.Walk.{tree_in}
use Rattle.jfs_way.specs.Answer.{is_open, Answers}
use Rattle.jfs_steps.specs.Place.{last_of, new_place_of}
use Rattle.jfs_steps.proofs.LastNames.{new_is, new_found, find_open, meets_bad, way_back, directory_is}
use Rattle.jfs_steps.proofs.places.new_place.Goals as goal

last : (path : List (List ℕ)) (name : List ℕ) → 0 < length path → name ≡ get_or path (length path - 1) name → name ≡ last_of path
last path name some h = get_or_read_under path (length path - 1) (length path) name [] h (omega (arith, some)) refl

pub returns-in-Ok-None-clause-follows : goal.returns-in-Ok-None-clause-follows
returns-in-Ok-None-clause-follows g c tells within area bm con =
    new_found (tree_in (g.V.PageView.block_count c.args.view.now) (page_of (g.V.PageView.image c.args.view.now)) area bm c.args.inodes.now) c.args.path.now c.in-Ok.dir (c.in-Ok.ensures.follows tells within area bm con).2.1
    (new_is (tree_in (g.V.PageView.block_count c.args.view.now) (page_of (g.V.PageView.image c.args.view.now)) area bm c.args.inodes.now) c.args.path.now (g.V.PageView.block_count c.args.view.now) (page_of (g.V.PageView.image c.args.view.now))
    c.in-Ok.dir (c.in-Ok.ensures.follows tells within area bm con) (directory_is (g.V.PageView.block_count c.args.view.now) (page_of (g.V.PageView.image c.args.view.now)) area bm c.args.inodes.now con c.in-Ok.dir c.in-Ok.ensures.held (c.in-Ok.ensures.shown tells)
    (c.in-Ok.ensures.follows tells within area bm con).2.1 c.in-Ok.ensures.directory)
    c.index-path-path.result c.root_in.result.now (last c.args.path.now c.index-path-path.result c.in-Ok.ensures.some c.index-path-path.is) c.root_in.ensures.root None (rw (c.place.ensures.count_of_blocks, c.place.ensures.image tells, c.in-Ok-None.field-0-is) at (c.in-Ok-None.ensures.found tells)))

pub returns-in-Ok-Some-clause-follows : goal.returns-in-Ok-Some-clause-follows
returns-in-Ok-Some-clause-follows g c tells within area bm con =
    inl (new_is (tree_in (g.V.PageView.block_count c.args.view.now) (page_of (g.V.PageView.image c.args.view.now)) area bm c.args.inodes.now) c.args.path.now (g.V.PageView.block_count c.args.view.now) (page_of (g.V.PageView.image c.args.view.now))
    c.in-Ok.dir (c.in-Ok.ensures.follows tells within area bm con) (directory_is (g.V.PageView.block_count c.args.view.now) (page_of (g.V.PageView.image c.args.view.now)) area bm c.args.inodes.now con c.in-Ok.dir c.in-Ok.ensures.held (c.in-Ok.ensures.shown tells)
    (c.in-Ok.ensures.follows tells within area bm con).2.1 c.in-Ok.ensures.directory)
    c.index-path-path.result c.root_in.result.now (last c.args.path.now c.index-path-path.result c.in-Ok.ensures.some c.index-path-path.is) c.root_in.ensures.root (Some c.in-Ok-Some.field-0-0) (rw (c.place.ensures.count_of_blocks, c.place.ensures.image tells, c.in-Ok-Some.field-0-is) at (c.in-Ok-Some.ensures.found tells)))

pub returns-in-Err-find-clause-follows : goal.returns-in-Err-find-clause-follows
returns-in-Err-find-clause-follows g c tells within area bm con =
    inr (ap is_open c.from_names.ensures.value ∙ find_open (g.V.PageView.block_count c.args.view.now) (page_of (g.V.PageView.image c.args.view.now)) (tree_in (g.V.PageView.block_count c.args.view.now) (page_of (g.V.PageView.image c.args.view.now)) area bm c.args.inodes.now) c.in-Ok.dir (directory_is (g.V.PageView.block_count c.args.view.now) (page_of (g.V.PageView.image c.args.view.now)) area bm c.args.inodes.now con c.in-Ok.dir c.in-Ok.ensures.held (c.in-Ok.ensures.shown tells)
    (c.in-Ok.ensures.follows tells within area bm con).2.1 c.in-Ok.ensures.directory)
    c.root_in.result.now c.root_in.ensures.root c.in-Ok.dir.number c.in-Ok.dir.page c.in-Err-find.e (rw (c.place.ensures.count_of_blocks, c.place.ensures.image tells) at (c.in-Err-find.ensures.bad tells)))

pub returns-in-Err-find-clause-meets : goal.returns-in-Err-find-clause-meets
returns-in-Err-find-clause-meets g c tells =
    subst (λ why. Answers (new_place_of (g.V.PageView.block_count c.args.view.now) (page_of (g.V.PageView.image c.args.view.now)) c.args.inodes.now c.args.path.now) (Err why)) (sym c.from_names.ensures.value)
    (meets_bad (g.V.PageView.block_count c.args.view.now) (page_of (g.V.PageView.image c.args.view.now)) c.args.inodes.now c.args.path.now c.in-Ok.dir (c.in-Ok.ensures.meets tells) c.index-path-path.result c.root_in.result.now (last c.args.path.now c.index-path-path.result c.in-Ok.ensures.some c.index-path-path.is) c.root_in.ensures.root
    c.in-Err-find.e (way_back (g.V.PageView.block_count c.args.view.now) (g.V.PageView.block_count c.place.new.view) (g.V.PageView.image c.args.view.now) (g.V.PageView.image c.place.new.view) c.root_in.result.now c.index-path-path.result c.in-Err-find.e
    c.place.ensures.count_of_blocks (c.place.ensures.image tells) (c.in-Err-find.ensures.way tells)) (rw (c.place.ensures.count_of_blocks, c.place.ensures.image tells) at (c.in-Err-find.ensures.bad tells)))
