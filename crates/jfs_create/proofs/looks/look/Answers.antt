use Rattle.std.proofs.Common.{◌≡◌, refl, ◌<◌, ◌-◌, ◌∙◌, sym, inl, ℕ, List, [], length, get_or, true, false, arith}
use Rattle.std.proofs.lemmas.List.{get_or_read_under}
use Rattle.jfs_disk.specs.Image.{page_of}
use Rattle.jfs_link.specs.meaning.specs.Readers.{root_of}
use Rattle.jfs_link.specs.steps.specs.Place.{last_of}
use Rattle.jfs_create.proofs.Seeing.{deep_back, way_deep, barred_deep, full, short, none, deep, free}
use Rattle.jfs_create.proofs.looks.look.Goals as goal

last : (path : List (List ℕ)) (name : List ℕ) → 0 < length path → name ≡ get_or path (length path - 1) name → name ≡ last_of path
last path name some h = get_or_read_under path (length path - 1) (length path) name [] h (omega (arith, some)) refl

pub returns-then-has_too_many-clause-room : goal.returns-then-has_too_many-clause-room
returns-then-has_too_many-clause-room g c tells many rest within area con log_pages now = inl (full (g.V.PageView.block_count c.args.view.now) (page_of (g.V.PageView.image c.args.view.now)) c.args.blocks.now c.args.inodes.now many rest area con log_pages c.args.path.now c.in-Ok.dir c.in-Ok.ensures.held (c.in-Ok.ensures.shown tells) c.in-Ok.ensures.directory
    (c.in-Ok.ensures.follows tells within area c.args.blocks.now con) c.args.object now (sym c.has_too_many.ensures ∙ c.if-has_too_many.true))

pub returns-in-Err-look_for_space-clause-room : goal.returns-in-Err-look_for_space-clause-room
returns-in-Err-look_for_space-clause-room g c tells many rest within area con log_pages now = inl (short (g.V.PageView.block_count c.args.view.now) (page_of (g.V.PageView.image c.args.view.now)) c.args.blocks.now c.args.inodes.now many rest area con log_pages c.args.path.now c.in-Ok.dir c.in-Ok.ensures.held (c.in-Ok.ensures.shown tells) c.in-Ok.ensures.directory
    (c.in-Ok.ensures.follows tells within area c.args.blocks.now con) c.args.object now (sym c.has_too_many.ensures ∙ c.if-has_too_many.false)
    c.in-Err-look_for_space.e c.in-Err-look_for_space.ensures.room)

pub returns-in-Err-look_for_inode-clause-room : goal.returns-in-Err-look_for_inode-clause-room
returns-in-Err-look_for_inode-clause-room g c tells many rest within area con log_pages now = inl (none (g.V.PageView.block_count c.args.view.now) (page_of (g.V.PageView.image c.args.view.now)) c.args.blocks.now c.args.inodes.now many rest area con log_pages c.args.path.now c.in-Ok.dir c.in-Ok.ensures.held (c.in-Ok.ensures.shown tells) c.in-Ok.ensures.directory
    (c.in-Ok.ensures.follows tells within area c.args.blocks.now con) c.args.object now (sym c.has_too_many.ensures ∙ c.if-has_too_many.false)
    c.in-Ok-look_for_space.ensures.room c.in-Err-look_for_inode.e c.in-Err-look_for_inode.ensures.room)

pub returns-in-Ok-true-clause-room : goal.returns-in-Ok-true-clause-room
returns-in-Ok-true-clause-room g c tells many rest within area con log_pages now = inl (deep (g.V.PageView.block_count c.args.view.now) (page_of (g.V.PageView.image c.args.view.now)) c.args.blocks.now c.args.inodes.now many rest area con log_pages c.args.path.now c.in-Ok.dir c.in-Ok.ensures.held (c.in-Ok.ensures.shown tells) c.in-Ok.ensures.directory
    (c.in-Ok.ensures.follows tells within area c.args.blocks.now con) c.args.object now (sym c.has_too_many.ensures ∙ c.if-has_too_many.false)
    c.in-Ok-look_for_space.ensures.room c.in-Ok-look_for_inode.fresh c.in-Ok-look_for_inode.ensures.room (deep_back (g.V.PageView.block_count c.args.view.now) (g.V.PageView.block_count c.new_place.new.view) (g.V.PageView.image c.args.view.now) (g.V.PageView.image c.new_place.new.view)
    c.root_in.result.now (root_of c.in-Ok.dir.inode) c.index-path-path.result (last_of c.args.path.now) true c.new_place.ensures.count_of_blocks (c.new_place.ensures.image tells) c.root_in.ensures.root (last c.args.path.now c.index-path-path.result c.in-Ok.ensures.some c.index-path-path.is)
    (rw c.in-Ok-true.field-0-test at (c.in-Ok-true.ensures.deep tells))))

pub returns-in-Ok-true-clause-barred : goal.returns-in-Ok-true-clause-barred
returns-in-Ok-true-clause-barred g c tells = barred_deep (g.V.PageView.block_count c.args.view.now) (page_of (g.V.PageView.image c.args.view.now)) c.args.blocks.now c.args.inodes.now c.args.path.now c.args.object c.in-Ok.dir c.in-Ok-look_for_inode.fresh (c.in-Ok.ensures.meets tells) (sym c.has_too_many.ensures ∙ c.if-has_too_many.false)
    (sym c.in-Ok-look_for_space.ensures.exactly) c.in-Ok-look_for_inode.ensures.exactly (way_deep (g.V.PageView.block_count c.args.view.now) (g.V.PageView.block_count c.new_place.new.view) (g.V.PageView.image c.args.view.now) (g.V.PageView.image c.new_place.new.view)
    c.root_in.result.now (root_of c.in-Ok.dir.inode) c.index-path-path.result (last_of c.args.path.now) true c.new_place.ensures.count_of_blocks (c.new_place.ensures.image tells) c.root_in.ensures.root (last c.args.path.now c.index-path-path.result c.in-Ok.ensures.some c.index-path-path.is)
    (rw c.in-Ok-true.field-0-test at (c.in-Ok-true.ensures.on_way tells)))

pub returns-in-Ok-false-clause-room : goal.returns-in-Ok-false-clause-room
returns-in-Ok-false-clause-room g c tells many rest within area con log_pages now = free (g.V.PageView.block_count c.args.view.now) (page_of (g.V.PageView.image c.args.view.now)) c.args.blocks.now c.args.inodes.now many rest area con log_pages c.args.path.now c.in-Ok.dir c.in-Ok.ensures.held (c.in-Ok.ensures.shown tells) c.in-Ok.ensures.directory
    (c.in-Ok.ensures.follows tells within area c.args.blocks.now con) c.args.object now (sym c.has_too_many.ensures ∙ c.if-has_too_many.false)
    c.in-Ok-look_for_space.ensures.room c.in-Ok-look_for_inode.fresh c.in-Ok-look_for_inode.ensures.room (deep_back (g.V.PageView.block_count c.args.view.now) (g.V.PageView.block_count c.new_place.new.view) (g.V.PageView.image c.args.view.now) (g.V.PageView.image c.new_place.new.view)
    c.root_in.result.now (root_of c.in-Ok.dir.inode) c.index-path-path.result (last_of c.args.path.now) false c.new_place.ensures.count_of_blocks (c.new_place.ensures.image tells) c.root_in.ensures.root (last c.args.path.now c.index-path-path.result c.in-Ok.ensures.some c.index-path-path.is)
    (rw c.in-Ok-false.field-0-test at (c.in-Ok-false.ensures.deep tells)))
