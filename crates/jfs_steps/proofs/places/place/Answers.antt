use Rattle.std.proofs.Common.{◌≡◌, ◌<◌, ◌∙◌, sym, inl, ℕ, length, arith}
use Rattle.jfs_disk.specs.Image.{page_of}
use Rattle.jfs_way.specs.Walk.{tree_in}
use Rattle.jfs_way.specs.plain.specs.Tree.{place_as}
use Rattle.jfs_steps.specs.Place.{last_of}
use Rattle.jfs_steps.proofs.LastNames.{place_fails, place_other, place_found, walked_there, directory_is, other_is}
use Rattle.jfs_steps.proofs.places.place.Goals as goal

some : (n : ℕ) → (n ≡ 0 → ⊥) → 0 < n
some n h = grind (arith, h)

pub returns-in-Err-clause-follows : goal.returns-in-Err-clause-follows
returns-in-Err-clause-follows g c tells within area bm con =
    place_fails (tree_in (g.V.PageView.block_count c.args.view.now) (page_of (g.V.PageView.image c.args.view.now)) area bm c.args.inodes.now) c.args.path.now (some (length c.args.path.now) c.if-count-eq0.false) c.in-Err.e
    (c.in-Err.ensures.follows tells within area bm con)

pub returns-then-has_names-clause-follows : goal.returns-then-has_names-clause-follows
returns-then-has_names-clause-follows g c tells within area bm con =
    place_found (tree_in (g.V.PageView.block_count c.args.view.now) (page_of (g.V.PageView.image c.args.view.now)) area bm c.args.inodes.now) c.args.path.now (some (length c.args.path.now) c.if-count-eq0.false)
    (g.V.PageView.block_count c.args.view.now) (page_of (g.V.PageView.image c.args.view.now)) c.in-Ok.at (c.in-Ok.ensures.follows tells within area bm con)
    (directory_is (g.V.PageView.block_count c.args.view.now) (page_of (g.V.PageView.image c.args.view.now)) area bm c.args.inodes.now con c.in-Ok.at c.in-Ok.ensures.held (c.in-Ok.ensures.shown tells)
    (walked_there (tree_in (g.V.PageView.block_count c.args.view.now) (page_of (g.V.PageView.image c.args.view.now)) area bm c.args.inodes.now) _ c.in-Ok.at (c.in-Ok.ensures.follows tells within area bm con)) (sym c.has_names.ensures ∙ c.if-has_names.true))

pub returns-else-has_names-clause-follows : goal.returns-else-has_names-clause-follows
returns-else-has_names-clause-follows g c tells within area bm con =
    inl (place_other (tree_in (g.V.PageView.block_count c.args.view.now) (page_of (g.V.PageView.image c.args.view.now)) area bm c.args.inodes.now) c.args.path.now (some (length c.args.path.now) c.if-count-eq0.false)
    c.in-Ok.at (c.in-Ok.ensures.follows tells within area bm con)
    (other_is (g.V.PageView.block_count c.args.view.now) (page_of (g.V.PageView.image c.args.view.now)) area bm c.args.inodes.now con c.in-Ok.at c.in-Ok.ensures.held (c.in-Ok.ensures.shown tells)
    (walked_there (tree_in (g.V.PageView.block_count c.args.view.now) (page_of (g.V.PageView.image c.args.view.now)) area bm c.args.inodes.now) _ c.in-Ok.at (c.in-Ok.ensures.follows tells within area bm con)) (sym c.has_names.ensures ∙ c.if-has_names.false) (place_as c.in-Ok.at.number (last_of c.args.path.now))))
