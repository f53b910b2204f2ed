use Rattle.std.proofs.Common.{◌∙◌, sym}
use Rattle.jfs_disk.specs.Image.{page_of}
use Rattle.jfs_link.specs.meaning.specs.Readers.{readers}
use Rattle.jfs_link.specs.meaning.specs.Room.{room_on}
use Rattle.jfs_link.specs.way.specs.Volume.{volume_of}
use Rattle.jfs_link.proofs.Asks.{last_is}
use Rattle.jfs_rename.proofs.Asks.{refuses, nothing_changes, room_allows, room_refuses, stands_back, short_last}
use Rattle.jfs_rename.proofs.Askeds.{closed_carries, asked_held, asked_is, asked_short}
use Rattle.jfs_rename.proofs.asking.ask.Goals as goal

pub returns-in-Err-permitted-clause-fault : goal.returns-in-Err-permitted-clause-fault
returns-in-Err-permitted-clause-fault g c = closed_carries (g.V.PageView.faults c.args.view.now) (g.V.PageView.faults c.occupant.new.view) c.in-Err-permitted.e c.in-Err-permitted.ensures.closed
    (c.in-Ok-occupant.ensures.fault ∙ c.in-Ok-is_inside.ensures.fault ∙ c.in-Ok.ensures.fault)

pub returns-in-Err-permitted-clause-refused : goal.returns-in-Err-permitted-clause-refused
returns-in-Err-permitted-clause-refused g c tells within area con log_pages = refuses (g.V.PageView.block_count c.args.view.now) (page_of (g.V.PageView.image c.args.view.now)) area c.args.blocks.now c.args.inodes.now con (room_on (readers (g.V.PageView.block_count c.args.view.now)) (volume_of (page_of (g.V.PageView.image c.args.view.now)) area c.args.blocks.now c.args.inodes.now) (g.V.PageView.block_count c.args.view.now) log_pages) c.args.from.now c.args.to.now c.in-Ok.moving c.in-Ok.ensures.held (c.in-Ok.ensures.shown tells) (c.in-Ok.ensures.follows tells within area c.args.blocks.now con)
    c.in-Ok-is_inside.inside (rw (c.find_moving.ensures.count_of_blocks, c.find_moving.ensures.image tells) at (c.in-Ok-is_inside.ensures.follows tells) within area c.args.blocks.now con)
    c.in-Ok-occupant.found (rw (c.is_inside.ensures.count_of_blocks, c.find_moving.ensures.count_of_blocks) at c.in-Ok-occupant.ensures.held) (rw (c.is_inside.ensures.image tells, c.find_moving.ensures.image tells) at (c.in-Ok-occupant.ensures.shown tells))
    (stands_back (g.V.PageView.block_count c.args.view.now) (g.V.PageView.block_count c.is_inside.new.view) (g.V.PageView.image c.args.view.now) (g.V.PageView.image c.is_inside.new.view) c.args.inodes.now c.in-Ok.moving.target c.args.to.now c.index-to-to.result c.in-Ok-occupant.found
    (c.is_inside.ensures.count_of_blocks ∙ c.find_moving.ensures.count_of_blocks) (c.is_inside.ensures.image tells ∙ c.find_moving.ensures.image tells) (last_is c.args.to.now c.index-to-to.result c.in-Ok.ensures.some.1 c.index-to-to.is) (c.in-Ok-occupant.ensures.follows tells) c.in-Ok.ensures.directories.1 within area c.args.blocks.now con (c.in-Ok.ensures.follows tells within area c.args.blocks.now con).target_there)
    c.args.limit c.in-Err-permitted.e (rw (c.blocks-2.ensures, c.occupant.ensures.count_of_blocks, c.is_inside.ensures.count_of_blocks, c.find_moving.ensures.count_of_blocks) at c.in-Err-permitted.ensures.value)

pub returns-then-changes_nothing-clause-allowed : goal.returns-then-changes_nothing-clause-allowed
returns-then-changes_nothing-clause-allowed g c tells within area con log_pages = nothing_changes (g.V.PageView.block_count c.args.view.now) (page_of (g.V.PageView.image c.args.view.now)) area c.args.blocks.now c.args.inodes.now con (room_on (readers (g.V.PageView.block_count c.args.view.now)) (volume_of (page_of (g.V.PageView.image c.args.view.now)) area c.args.blocks.now c.args.inodes.now) (g.V.PageView.block_count c.args.view.now) log_pages) c.args.from.now c.args.to.now c.in-Ok.moving c.in-Ok.ensures.held (c.in-Ok.ensures.shown tells) (c.in-Ok.ensures.follows tells within area c.args.blocks.now con)
    c.in-Ok-is_inside.inside (rw (c.find_moving.ensures.count_of_blocks, c.find_moving.ensures.image tells) at (c.in-Ok-is_inside.ensures.follows tells) within area c.args.blocks.now con)
    c.in-Ok-occupant.found (rw (c.is_inside.ensures.count_of_blocks, c.find_moving.ensures.count_of_blocks) at c.in-Ok-occupant.ensures.held) (rw (c.is_inside.ensures.image tells, c.find_moving.ensures.image tells) at (c.in-Ok-occupant.ensures.shown tells))
    (stands_back (g.V.PageView.block_count c.args.view.now) (g.V.PageView.block_count c.is_inside.new.view) (g.V.PageView.image c.args.view.now) (g.V.PageView.image c.is_inside.new.view) c.args.inodes.now c.in-Ok.moving.target c.args.to.now c.index-to-to.result c.in-Ok-occupant.found
    (c.is_inside.ensures.count_of_blocks ∙ c.find_moving.ensures.count_of_blocks) (c.is_inside.ensures.image tells ∙ c.find_moving.ensures.image tells) (last_is c.args.to.now c.index-to-to.result c.in-Ok.ensures.some.1 c.index-to-to.is) (c.in-Ok-occupant.ensures.follows tells) c.in-Ok.ensures.directories.1 within area c.args.blocks.now con (c.in-Ok.ensures.follows tells within area c.args.blocks.now con).target_there)
    c.args.limit c.in-Ok-permitted.asked (rw (c.blocks-2.ensures, c.occupant.ensures.count_of_blocks, c.is_inside.ensures.count_of_blocks, c.find_moving.ensures.count_of_blocks) at c.in-Ok-permitted.ensures.value) (sym c.changes_nothing.ensures ∙ c.if-changes_nothing.true)

pub check_room-requires-clause-name : goal.check_room-requires-clause-name
check_room-requires-clause-name g c = short_last c.args.to.now c.index-to-to.result c.in-Ok.ensures.some.1 c.index-to-to.is c.requires.to

pub returns-in-Ok-check_room-clause-held : goal.returns-in-Ok-check_room-clause-held
returns-in-Ok-check_room-clause-held g c = asked_held (g.V.PageView.block_count c.args.view.now) c.args.inodes.now c.args.limit c.in-Ok.moving c.in-Ok-is_inside.inside c.in-Ok.ensures.held c.in-Ok.ensures.directories c.in-Ok-occupant.found
    (rw (c.is_inside.ensures.count_of_blocks, c.find_moving.ensures.count_of_blocks) at c.in-Ok-occupant.ensures.held) c.in-Ok-permitted.asked (rw (c.blocks-2.ensures, c.occupant.ensures.count_of_blocks, c.is_inside.ensures.count_of_blocks, c.find_moving.ensures.count_of_blocks) at c.in-Ok-permitted.ensures.value)

pub returns-in-Ok-check_room-clause-allowed : goal.returns-in-Ok-check_room-clause-allowed
returns-in-Ok-check_room-clause-allowed g c tells within area con log_pages = room_allows (g.V.PageView.block_count c.args.view.now) (page_of (g.V.PageView.image c.args.view.now)) area c.args.blocks.now c.args.inodes.now con (room_on (readers (g.V.PageView.block_count c.args.view.now)) (volume_of (page_of (g.V.PageView.image c.args.view.now)) area c.args.blocks.now c.args.inodes.now) (g.V.PageView.block_count c.args.view.now) log_pages) c.args.from.now c.args.to.now c.in-Ok.moving c.in-Ok.ensures.held (c.in-Ok.ensures.shown tells) (c.in-Ok.ensures.follows tells within area c.args.blocks.now con)
    c.in-Ok-is_inside.inside (rw (c.find_moving.ensures.count_of_blocks, c.find_moving.ensures.image tells) at (c.in-Ok-is_inside.ensures.follows tells) within area c.args.blocks.now con)
    c.in-Ok-occupant.found (rw (c.is_inside.ensures.count_of_blocks, c.find_moving.ensures.count_of_blocks) at c.in-Ok-occupant.ensures.held) (rw (c.is_inside.ensures.image tells, c.find_moving.ensures.image tells) at (c.in-Ok-occupant.ensures.shown tells))
    (stands_back (g.V.PageView.block_count c.args.view.now) (g.V.PageView.block_count c.is_inside.new.view) (g.V.PageView.image c.args.view.now) (g.V.PageView.image c.is_inside.new.view) c.args.inodes.now c.in-Ok.moving.target c.args.to.now c.index-to-to.result c.in-Ok-occupant.found
    (c.is_inside.ensures.count_of_blocks ∙ c.find_moving.ensures.count_of_blocks) (c.is_inside.ensures.image tells ∙ c.find_moving.ensures.image tells) (last_is c.args.to.now c.index-to-to.result c.in-Ok.ensures.some.1 c.index-to-to.is) (c.in-Ok-occupant.ensures.follows tells) c.in-Ok.ensures.directories.1 within area c.args.blocks.now con (c.in-Ok.ensures.follows tells within area c.args.blocks.now con).target_there)
    c.args.limit c.in-Ok-permitted.asked (rw (c.blocks-2.ensures, c.occupant.ensures.count_of_blocks, c.is_inside.ensures.count_of_blocks, c.find_moving.ensures.count_of_blocks) at c.in-Ok-permitted.ensures.value) (sym c.changes_nothing.ensures ∙ c.if-changes_nothing.false)
    (rw (c.occupant.ensures.count_of_blocks, c.occupant.ensures.image tells, c.is_inside.ensures.count_of_blocks, c.is_inside.ensures.image tells, c.find_moving.ensures.count_of_blocks, c.find_moving.ensures.image tells, last_is c.args.to.now c.index-to-to.result c.in-Ok.ensures.some.1 c.index-to-to.is) at (c.in-Ok-check_room.ensures.room tells) c.args.inodes.now c.in-Ok.ensures.held.2 (c.in-Ok.ensures.shown tells).2 c.in-Ok.ensures.directories.1 within area con log_pages (c.in-Ok.ensures.follows tells within area c.args.blocks.now con).target_there)

pub returns-in-Err-check_room-clause-refused : goal.returns-in-Err-check_room-clause-refused
returns-in-Err-check_room-clause-refused g c tells within area con log_pages = room_refuses (g.V.PageView.block_count c.args.view.now) (page_of (g.V.PageView.image c.args.view.now)) area c.args.blocks.now c.args.inodes.now con (room_on (readers (g.V.PageView.block_count c.args.view.now)) (volume_of (page_of (g.V.PageView.image c.args.view.now)) area c.args.blocks.now c.args.inodes.now) (g.V.PageView.block_count c.args.view.now) log_pages) c.args.from.now c.args.to.now c.in-Ok.moving c.in-Ok.ensures.held (c.in-Ok.ensures.shown tells) (c.in-Ok.ensures.follows tells within area c.args.blocks.now con)
    c.in-Ok-is_inside.inside (rw (c.find_moving.ensures.count_of_blocks, c.find_moving.ensures.image tells) at (c.in-Ok-is_inside.ensures.follows tells) within area c.args.blocks.now con)
    c.in-Ok-occupant.found (rw (c.is_inside.ensures.count_of_blocks, c.find_moving.ensures.count_of_blocks) at c.in-Ok-occupant.ensures.held) (rw (c.is_inside.ensures.image tells, c.find_moving.ensures.image tells) at (c.in-Ok-occupant.ensures.shown tells))
    (stands_back (g.V.PageView.block_count c.args.view.now) (g.V.PageView.block_count c.is_inside.new.view) (g.V.PageView.image c.args.view.now) (g.V.PageView.image c.is_inside.new.view) c.args.inodes.now c.in-Ok.moving.target c.args.to.now c.index-to-to.result c.in-Ok-occupant.found
    (c.is_inside.ensures.count_of_blocks ∙ c.find_moving.ensures.count_of_blocks) (c.is_inside.ensures.image tells ∙ c.find_moving.ensures.image tells) (last_is c.args.to.now c.index-to-to.result c.in-Ok.ensures.some.1 c.index-to-to.is) (c.in-Ok-occupant.ensures.follows tells) c.in-Ok.ensures.directories.1 within area c.args.blocks.now con (c.in-Ok.ensures.follows tells within area c.args.blocks.now con).target_there)
    c.args.limit c.in-Ok-permitted.asked (rw (c.blocks-2.ensures, c.occupant.ensures.count_of_blocks, c.is_inside.ensures.count_of_blocks, c.find_moving.ensures.count_of_blocks) at c.in-Ok-permitted.ensures.value) (sym c.changes_nothing.ensures ∙ c.if-changes_nothing.false) c.in-Err-check_room.e
    (rw (c.occupant.ensures.count_of_blocks, c.occupant.ensures.image tells, c.is_inside.ensures.count_of_blocks, c.is_inside.ensures.image tells, c.find_moving.ensures.count_of_blocks, c.find_moving.ensures.image tells, last_is c.args.to.now c.index-to-to.result c.in-Ok.ensures.some.1 c.index-to-to.is) at (c.in-Err-check_room.ensures.room tells) c.args.inodes.now c.in-Ok.ensures.held.2 (c.in-Ok.ensures.shown tells).2 c.in-Ok.ensures.directories.1 within area con log_pages (c.in-Ok.ensures.follows tells within area c.args.blocks.now con).target_there)

pub returns-in-Ok-check_room-clause-meets : goal.returns-in-Ok-check_room-clause-meets
returns-in-Ok-check_room-clause-meets g c tells = asked_is (g.V.PageView.block_count c.args.view.now) (page_of (g.V.PageView.image c.args.view.now)) c.args.blocks.now c.args.inodes.now c.args.limit c.args.from.now c.args.to.now c.in-Ok.moving (c.in-Ok.ensures.meets tells)
    c.in-Ok-is_inside.inside (rw (c.find_moving.ensures.count_of_blocks, c.find_moving.ensures.image tells) at (c.in-Ok-is_inside.ensures.meets tells)) c.in-Ok-occupant.found (rw (c.is_inside.ensures.count_of_blocks, c.is_inside.ensures.image tells, c.find_moving.ensures.count_of_blocks, c.find_moving.ensures.image tells, last_is c.args.to.now c.index-to-to.result c.in-Ok.ensures.some.1 c.index-to-to.is) at (c.in-Ok-occupant.ensures.meets tells)) c.in-Ok-permitted.asked (rw (c.blocks-2.ensures, c.occupant.ensures.count_of_blocks, c.is_inside.ensures.count_of_blocks, c.find_moving.ensures.count_of_blocks) at c.in-Ok-permitted.ensures.value) (sym c.changes_nothing.ensures ∙ c.if-changes_nothing.false) c.in-Ok-check_room.field-0 (rw (c.occupant.ensures.count_of_blocks, c.occupant.ensures.image tells, c.is_inside.ensures.count_of_blocks, c.is_inside.ensures.image tells, c.find_moving.ensures.count_of_blocks, c.find_moving.ensures.image tells, last_is c.args.to.now c.index-to-to.result c.in-Ok.ensures.some.1 c.index-to-to.is) at (c.in-Ok-check_room.ensures.meets tells))

pub returns-in-Err-check_room-clause-meets : goal.returns-in-Err-check_room-clause-meets
returns-in-Err-check_room-clause-meets g c tells = asked_short (g.V.PageView.block_count c.args.view.now) (page_of (g.V.PageView.image c.args.view.now)) c.args.blocks.now c.args.inodes.now c.args.limit c.args.from.now c.args.to.now c.in-Ok.moving (c.in-Ok.ensures.meets tells)
    c.in-Ok-is_inside.inside (rw (c.find_moving.ensures.count_of_blocks, c.find_moving.ensures.image tells) at (c.in-Ok-is_inside.ensures.meets tells)) c.in-Ok-occupant.found (rw (c.is_inside.ensures.count_of_blocks, c.is_inside.ensures.image tells, c.find_moving.ensures.count_of_blocks, c.find_moving.ensures.image tells, last_is c.args.to.now c.index-to-to.result c.in-Ok.ensures.some.1 c.index-to-to.is) at (c.in-Ok-occupant.ensures.meets tells)) c.in-Ok-permitted.asked (rw (c.blocks-2.ensures, c.occupant.ensures.count_of_blocks, c.is_inside.ensures.count_of_blocks, c.find_moving.ensures.count_of_blocks) at c.in-Ok-permitted.ensures.value) (sym c.changes_nothing.ensures ∙ c.if-changes_nothing.false) c.in-Err-check_room.e (rw (c.occupant.ensures.count_of_blocks, c.occupant.ensures.image tells, c.is_inside.ensures.count_of_blocks, c.is_inside.ensures.image tells, c.find_moving.ensures.count_of_blocks, c.find_moving.ensures.image tells, last_is c.args.to.now c.index-to-to.result c.in-Ok.ensures.some.1 c.index-to-to.is) at (c.in-Err-check_room.ensures.meets tells))
