-- Why a commit helps a call that finds too few free blocks.
use Rattle.std.specs.Prelude.{◌≡◌, ◌≤◌, true}
use Rattle.jfs_room.specs.bmap.specs.Set.{HasFreeRun}
use Rattle.jfs_room.specs.bmap.specs.States.{Blocks, is_used, unowned_count, all_settled}
use Rattle.jfs_room.specs.Laws.{NoneReserved}
use Rattle.jfs_claim.specs.declared.reserve.Want.{Want}
use Rattle.jfs_claim.specs.Take.{HasFree, total}

-- Where no block is reserved: if there are as many blocks without an owner as are wanted, and a run once all busy blocks are settled where one is wanted, then all that is wanted is
-- free once they are settled. So busy blocks alone stand between a call and its blocks.
abbrev pub SettledIsEnough : Type 0
SettledIsEnough = (map : Blocks) (want : Want) → NoneReserved map → total want ≤ unowned_count map → (want.run ≡ true → HasFreeRun (is_used (all_settled map)) 2) → HasFree (all_settled map) want
