use Rattle.jfs_room.specs.bmap.specs.States.{is_used}
use Rattle.jfs_room.specs.bmap.proofs.LowestBlocks.{each-total}
use Rattle.jfs_claim.proofs.Takes.{claims, fresh, enough, refused, run_reserved, run_back}
use Rattle.jfs_claim.proofs.reserve.take.Goals as goal

pub give_back_run-requires : goal.give_back_run-requires
give_back_run-requires c = rw (c.in-Err-take_blocks.ensures.unchanged, c.in-Ok.ensures.reserved) (run_reserved c.args.map.now c.args.want c.in-Ok.run' c.in-Ok.ensures.run)

pub returns-in-Ok-take_blocks-clause-claims : goal.returns-in-Ok-take_blocks-clause-claims
returns-in-Ok-take_blocks-clause-claims c = claims c.args.map.now c.args.want c.in-Ok.run' c.in-Ok.ensures.run c.take_blocks.new.map c.in-Ok-take_blocks.claim
    c.in-Ok-take_blocks.ensures.run (rw c.in-Ok.ensures.reserved at c.in-Ok-take_blocks.ensures.each) c.in-Ok-take_blocks.ensures.all_left

pub returns-in-Err-take_blocks-clause-free : goal.returns-in-Err-take_blocks-clause-free
returns-in-Err-take_blocks-clause-free c =
    refused c.args.map.now c.args.want c.in-Ok.run' c.in-Ok.ensures.run c.take_run.new.map c.in-Ok.ensures.reserved c.in-Err-take_blocks.e c.in-Err-take_blocks.ensures.free

pub returns-in-Ok-take_blocks-clause-free : goal.returns-in-Ok-take_blocks-clause-free
returns-in-Ok-take_blocks-clause-free c = enough c.args.map.now c.args.want c.in-Ok.run' c.in-Ok.ensures.run (rw c.in-Ok.ensures.reserved at c.in-Ok-take_blocks.ensures.free)

pub returns-in-Err-take_blocks-clause-unchanged : goal.returns-in-Err-take_blocks-clause-unchanged
returns-in-Err-take_blocks-clause-unchanged c = rw (c.give_back_run.ensures, c.in-Err-take_blocks.ensures.unchanged, c.in-Ok.ensures.reserved) (run_back c.args.map.now c.args.want c.in-Ok.run' c.in-Ok.ensures.run)

pub returns-in-Ok-take_blocks-clause-fresh : goal.returns-in-Ok-take_blocks-clause-fresh
returns-in-Ok-take_blocks-clause-fresh c =
    let claim = c.in-Ok-take_blocks.claim in
    let each = c.in-Ok-take_blocks.ensures.each in
    rw c.in-Ok-take_blocks.ensures.all_left (fresh c.args.map.now c.args.want c.in-Ok.run' c.in-Ok.ensures.run c.take_blocks.new.map claim.blocks (rw c.in-Ok.ensures.reserved at each) (each-total (is_used c.take_run.new.map) claim.blocks each.lowest))
