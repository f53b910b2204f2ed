use Rattle.std.proofs.Common.{ap, ◌∙◌}
use Rattle.jfs_room.specs.bmap.specs.States.{Free, Blocks, put_state}
use Rattle.jfs_room.specs.bmap.proofs.Puts.{put-back}
use Rattle.jfs_claim.proofs.reserve.take_blocks.Goals as goal

pub returns-in-Err-clause-unchanged : goal.returns-in-Err-clause-unchanged
returns-in-Err-clause-unchanged c =
    c.give_back.ensures
    ∙ ap (λ (m : Blocks). put_state Free c.in-Ok.blocks m) c.in-Ok.ensures.reserved
    ∙ put-back c.in-Ok.blocks c.args.map.now c.in-Ok.ensures.free
