use Rattle.std.proofs.Common.{◌∙◌, sym, inl, Ok, Err}
use Rattle.jfs_disk.specs.Image.{page_of}
use Rattle.jfs_lead_steps.specs.meaning.specs.Readers.{readers}
use Rattle.jfs_lead_steps.specs.meaning.specs.Room.{room_on}
use Rattle.jfs_steps.specs.Place.{last_of}
use Rattle.jfs_steps.specs.way.specs.Volume.{volume_of}
use Rattle.jfs_link.proofs.Asks.{space_by, deep_by, directory_refused, place_refused, links_refused, space_refused, depth_refused, may_link, last_is, not_full}
use Rattle.jfs_link.proofs.Asked.{asked_deep, asked_is}
use Rattle.jfs_link.proofs.asking.ask.Goals as goal

pub returns-then-has_names-clause-refused : goal.returns-then-has_names-clause-refused
returns-then-has_names-clause-refused g c tells within area con log_pages =
    directory_refused (g.V.PageView.block_count c.args.view.now) (page_of (g.V.PageView.image c.args.view.now)) area c.args.blocks.now c.args.inodes.now con (room_on (readers (g.V.PageView.block_count c.args.view.now)) (volume_of (page_of (g.V.PageView.image c.args.view.now)) area c.args.blocks.now c.args.inodes.now) (g.V.PageView.block_count c.args.view.now) log_pages) c.args.from.now c.args.to.now c.in-Ok.object c.in-Ok.ensures.held (c.in-Ok.ensures.shown tells) (c.in-Ok.ensures.follows tells within area c.args.blocks.now con)
    (sym c.has_names.ensures ∙ c.if-has_names.true)

pub returns-in-Err-new_place-clause-refused : goal.returns-in-Err-new_place-clause-refused
returns-in-Err-new_place-clause-refused g c tells within area con log_pages =
    place_refused (g.V.PageView.block_count c.args.view.now) (page_of (g.V.PageView.image c.args.view.now)) area c.args.blocks.now c.args.inodes.now con (room_on (readers (g.V.PageView.block_count c.args.view.now)) (volume_of (page_of (g.V.PageView.image c.args.view.now)) area c.args.blocks.now c.args.inodes.now) (g.V.PageView.block_count c.args.view.now) log_pages) c.args.from.now c.args.to.now c.in-Ok.object c.in-Ok.ensures.held (c.in-Ok.ensures.shown tells) (c.in-Ok.ensures.follows tells within area c.args.blocks.now con)
    (sym c.has_names.ensures ∙ c.if-has_names.false) c.in-Err-new_place.e (rw (c.walk.ensures.count_of_blocks, c.walk.ensures.image tells) at (c.in-Err-new_place.ensures.follows tells) within area c.args.blocks.now con)

pub returns-then-object-ge-MOST_LINKS-clause-refused : goal.returns-then-object-ge-MOST_LINKS-clause-refused
returns-then-object-ge-MOST_LINKS-clause-refused g c tells within area con log_pages =
    links_refused (g.V.PageView.block_count c.args.view.now) (page_of (g.V.PageView.image c.args.view.now)) area c.args.blocks.now c.args.inodes.now con (room_on (readers (g.V.PageView.block_count c.args.view.now)) (volume_of (page_of (g.V.PageView.image c.args.view.now)) area c.args.blocks.now c.args.inodes.now) (g.V.PageView.block_count c.args.view.now) log_pages) c.args.from.now c.args.to.now c.in-Ok.object c.in-Ok.ensures.held (c.in-Ok.ensures.shown tells) (c.in-Ok.ensures.follows tells within area c.args.blocks.now con)
    (sym c.has_names.ensures ∙ c.if-has_names.false) c.in-Ok-new_place.dir (rw (c.walk.ensures.count_of_blocks, c.walk.ensures.image tells) at (c.in-Ok-new_place.ensures.follows tells) within area c.args.blocks.now con) c.if-object-ge-MOST_LINKS.true

pub returns-in-Err-look_for_space-clause-refused : goal.returns-in-Err-look_for_space-clause-refused
returns-in-Err-look_for_space-clause-refused g c tells within area con log_pages =
    space_refused (g.V.PageView.block_count c.args.view.now) (page_of (g.V.PageView.image c.args.view.now)) area c.args.blocks.now c.args.inodes.now con (room_on (readers (g.V.PageView.block_count c.args.view.now)) (volume_of (page_of (g.V.PageView.image c.args.view.now)) area c.args.blocks.now c.args.inodes.now) (g.V.PageView.block_count c.args.view.now) log_pages) c.args.from.now c.args.to.now c.in-Ok.object c.in-Ok.ensures.held (c.in-Ok.ensures.shown tells) (c.in-Ok.ensures.follows tells within area c.args.blocks.now con)
    (sym c.has_names.ensures ∙ c.if-has_names.false) c.in-Ok-new_place.dir (rw (c.walk.ensures.count_of_blocks, c.walk.ensures.image tells) at (c.in-Ok-new_place.ensures.follows tells) within area c.args.blocks.now con) (not_full c.in-Ok.object.inode.nlink c.if-object-ge-MOST_LINKS.false) c.in-Err-look_for_space.e
    (space_by (g.V.PageView.block_count c.args.view.now) (page_of (g.V.PageView.image c.args.view.now)) area c.args.blocks.now c.args.inodes.now c.requires.size con (Err c.in-Err-look_for_space.e) c.in-Err-look_for_space.ensures.room log_pages)

pub returns-in-Ok-true-clause-refused : goal.returns-in-Ok-true-clause-refused
returns-in-Ok-true-clause-refused g c tells within area con log_pages =
    depth_refused (g.V.PageView.block_count c.args.view.now) (page_of (g.V.PageView.image c.args.view.now)) area c.args.blocks.now c.args.inodes.now con (room_on (readers (g.V.PageView.block_count c.args.view.now)) (volume_of (page_of (g.V.PageView.image c.args.view.now)) area c.args.blocks.now c.args.inodes.now) (g.V.PageView.block_count c.args.view.now) log_pages) c.args.from.now c.args.to.now c.in-Ok.object c.in-Ok.ensures.held (c.in-Ok.ensures.shown tells) (c.in-Ok.ensures.follows tells within area c.args.blocks.now con)
    (sym c.has_names.ensures ∙ c.if-has_names.false) c.in-Ok-new_place.dir (rw (c.walk.ensures.count_of_blocks, c.walk.ensures.image tells) at (c.in-Ok-new_place.ensures.follows tells) within area c.args.blocks.now con) (not_full c.in-Ok.object.inode.nlink c.if-object-ge-MOST_LINKS.false)
    (space_by (g.V.PageView.block_count c.args.view.now) (page_of (g.V.PageView.image c.args.view.now)) area c.args.blocks.now c.args.inodes.now c.requires.size con (Ok tt) c.in-Ok-look_for_space.ensures.room log_pages)
    (deep_by (g.V.PageView.block_count c.args.view.now) (page_of (g.V.PageView.image c.args.view.now)) area c.args.blocks.now c.args.inodes.now con c.in-Ok-new_place.dir (rw c.walk.ensures.count_of_blocks at c.in-Ok-new_place.ensures.held) (rw (c.walk.ensures.image tells) at (c.in-Ok-new_place.ensures.shown tells)) (rw (c.walk.ensures.count_of_blocks, c.walk.ensures.image tells) at (c.in-Ok-new_place.ensures.follows tells) within area c.args.blocks.now con).2.1 c.in-Ok-new_place.ensures.directory (last_of c.args.to.now) c.in-Ok-true.field-0 (rw (c.new_place.ensures.count_of_blocks, c.new_place.ensures.image tells, c.walk.ensures.count_of_blocks, c.walk.ensures.image tells, c.root_in.ensures.root, last_is c.args.to.now c.index-to-to.result c.in-Ok-new_place.ensures.some c.index-to-to.is) at (c.in-Ok-true.ensures.deep tells)) log_pages ∙ c.in-Ok-true.field-0-test)

pub returns-in-Ok-false-clause-allowed : goal.returns-in-Ok-false-clause-allowed
returns-in-Ok-false-clause-allowed g c tells within area con log_pages =
    may_link (g.V.PageView.block_count c.args.view.now) (page_of (g.V.PageView.image c.args.view.now)) area c.args.blocks.now c.args.inodes.now con (room_on (readers (g.V.PageView.block_count c.args.view.now)) (volume_of (page_of (g.V.PageView.image c.args.view.now)) area c.args.blocks.now c.args.inodes.now) (g.V.PageView.block_count c.args.view.now) log_pages) c.args.from.now c.args.to.now c.in-Ok.object c.in-Ok.ensures.held (c.in-Ok.ensures.shown tells) (c.in-Ok.ensures.follows tells within area c.args.blocks.now con)
    (sym c.has_names.ensures ∙ c.if-has_names.false) c.in-Ok-new_place.dir (rw (c.walk.ensures.count_of_blocks, c.walk.ensures.image tells) at (c.in-Ok-new_place.ensures.follows tells) within area c.args.blocks.now con) (rw (c.walk.ensures.count_of_blocks, c.walk.ensures.image tells) at (c.in-Ok-new_place.ensures.follows tells) within area c.args.blocks.now con).2.1
    (space_by (g.V.PageView.block_count c.args.view.now) (page_of (g.V.PageView.image c.args.view.now)) area c.args.blocks.now c.args.inodes.now c.requires.size con (Ok tt) c.in-Ok-look_for_space.ensures.room log_pages)
    (deep_by (g.V.PageView.block_count c.args.view.now) (page_of (g.V.PageView.image c.args.view.now)) area c.args.blocks.now c.args.inodes.now con c.in-Ok-new_place.dir (rw c.walk.ensures.count_of_blocks at c.in-Ok-new_place.ensures.held) (rw (c.walk.ensures.image tells) at (c.in-Ok-new_place.ensures.shown tells)) (rw (c.walk.ensures.count_of_blocks, c.walk.ensures.image tells) at (c.in-Ok-new_place.ensures.follows tells) within area c.args.blocks.now con).2.1 c.in-Ok-new_place.ensures.directory (last_of c.args.to.now) c.in-Ok-false.field-0 (rw (c.new_place.ensures.count_of_blocks, c.new_place.ensures.image tells, c.walk.ensures.count_of_blocks, c.walk.ensures.image tells, c.root_in.ensures.root, last_is c.args.to.now c.index-to-to.result c.in-Ok-new_place.ensures.some c.index-to-to.is) at (c.in-Ok-false.ensures.deep tells)) log_pages ∙ c.in-Ok-false.field-0-test)

pub returns-in-Ok-true-clause-meets : goal.returns-in-Ok-true-clause-meets
returns-in-Ok-true-clause-meets g c tells = inl (asked_deep (g.V.PageView.block_count c.args.view.now) (page_of (g.V.PageView.image c.args.view.now)) c.args.blocks.now c.args.inodes.now c.args.from.now c.args.to.now c.in-Ok.object c.in-Ok-new_place.dir
    (c.in-Ok.ensures.meets tells) (sym c.has_names.ensures ∙ c.if-has_names.false) (rw (c.walk.ensures.count_of_blocks, c.walk.ensures.image tells) at (c.in-Ok-new_place.ensures.meets tells))
    (not_full c.in-Ok.object.inode.nlink c.if-object-ge-MOST_LINKS.false) (sym c.in-Ok-look_for_space.ensures.exactly)
    (sym (rw (c.new_place.ensures.count_of_blocks, c.new_place.ensures.image tells, c.walk.ensures.count_of_blocks, c.walk.ensures.image tells, c.root_in.ensures.root, last_is c.args.to.now c.index-to-to.result c.in-Ok-new_place.ensures.some c.index-to-to.is) at (c.in-Ok-true.ensures.on_way tells)) ∙ c.in-Ok-true.field-0-test))

pub returns-in-Ok-false-clause-meets : goal.returns-in-Ok-false-clause-meets
returns-in-Ok-false-clause-meets g c tells = asked_is (g.V.PageView.block_count c.args.view.now) (page_of (g.V.PageView.image c.args.view.now)) c.args.blocks.now c.args.inodes.now c.args.from.now c.args.to.now c.in-Ok.object c.in-Ok-new_place.dir
    (c.in-Ok.ensures.meets tells) (sym c.has_names.ensures ∙ c.if-has_names.false) (rw (c.walk.ensures.count_of_blocks, c.walk.ensures.image tells) at (c.in-Ok-new_place.ensures.meets tells))
    (not_full c.in-Ok.object.inode.nlink c.if-object-ge-MOST_LINKS.false) (sym c.in-Ok-look_for_space.ensures.exactly)
    (sym (rw (c.new_place.ensures.count_of_blocks, c.new_place.ensures.image tells, c.walk.ensures.count_of_blocks, c.walk.ensures.image tells, c.root_in.ensures.root, last_is c.args.to.now c.index-to-to.result c.in-Ok-new_place.ensures.some c.index-to-to.is) at (c.in-Ok-false.ensures.on_way tells)) ∙ c.in-Ok-false.field-0-test)
