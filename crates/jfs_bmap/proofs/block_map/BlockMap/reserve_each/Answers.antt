use Rattle.std.proofs.Common.{ap, ◌∙◌}
use Rattle.jfs_bmap.specs.States.{Free, Blocks, put_state, is_used}
use Rattle.jfs_bmap.proofs.Puts.{put-back, reserved-put}
use Rattle.jfs_bmap.proofs.LowestBlocks.{each-total, each-within}
use Rattle.jfs_bmap.proofs.block_map.BlockMap.reserve_each.Goals as goal

pub give_back-requires : goal.give_back-requires
give_back-requires c = rw c.in-Err.ensures.reserved (reserved-put c.reserve_blocks.new.list c.args.self.now c.in-Err.ensures.once c.in-Err.ensures.free)

pub returns-in-Ok-clause-total : goal.returns-in-Ok-clause-total
returns-in-Ok-clause-total c = each-total (is_used c.args.self.now) c.reserve_blocks.new.list c.in-Ok.ensures.chosen ∙ c.in-Ok.ensures.number

pub returns-in-Ok-clause-within : goal.returns-in-Ok-clause-within
returns-in-Ok-clause-within c = each-within c.args.self.now c.reserve_blocks.new.list c.in-Ok.ensures.chosen

pub returns-in-Ok-clause-held : goal.returns-in-Ok-clause-held
returns-in-Ok-clause-held c = rw c.in-Ok.ensures.reserved (reserved-put c.reserve_blocks.new.list c.args.self.now c.in-Ok.ensures.once c.in-Ok.ensures.free)

pub returns-in-Err-clause-unchanged : goal.returns-in-Err-clause-unchanged
returns-in-Err-clause-unchanged c =
    c.give_back.ensures
    ∙ ap (λ (m : Blocks). put_state Free c.reserve_blocks.new.list m) c.in-Err.ensures.reserved
    ∙ put-back c.reserve_blocks.new.list c.args.self.now c.in-Err.ensures.free
