use Rattle.std.proofs.Common.{ap, ◌∙◌}
use Rattle.jfs_bmap.specs.States.{Free, Blocks, put_state, is_used}
use Rattle.jfs_bmap.proofs.Puts.{put-back, reserved-put}
use Rattle.jfs_bmap.proofs.Reservations.{reservation-total}
use Rattle.jfs_bmap.proofs.Within.{reservation-within}
use Rattle.jfs_bmap.proofs.block_map.BlockMap.reserve.Goals as goal

pub give_back-requires : goal.give_back-requires
give_back-requires c = rw c.in-Err.ensures.reserved (reserved-put c.reserve_runs.new.list c.args.self.now c.in-Err.ensures.once c.in-Err.ensures.free)

pub returns-in-Ok-clause-total : goal.returns-in-Ok-clause-total
returns-in-Ok-clause-total c = reservation-total (is_used c.args.self.now) c.args.hint c.args.n c.reserve_runs.new.list c.in-Ok.ensures.chosen

pub returns-in-Ok-clause-within : goal.returns-in-Ok-clause-within
returns-in-Ok-clause-within c = reservation-within c.args.self.now c.args.hint c.args.n c.reserve_runs.new.list c.in-Ok.ensures.chosen

pub returns-in-Ok-clause-held : goal.returns-in-Ok-clause-held
returns-in-Ok-clause-held c = rw c.in-Ok.ensures.reserved (reserved-put c.reserve_runs.new.list c.args.self.now c.in-Ok.ensures.once c.in-Ok.ensures.free)

pub returns-in-Err-clause-unchanged : goal.returns-in-Err-clause-unchanged
returns-in-Err-clause-unchanged c =
    c.give_back.ensures
    ∙ ap (λ (m : Blocks). put_state Free c.reserve_runs.new.list m) c.in-Err.ensures.reserved
    ∙ put-back c.reserve_runs.new.list c.args.self.now c.in-Err.ensures.free
