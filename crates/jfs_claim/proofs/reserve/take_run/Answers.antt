use Rattle.std.proofs.Common.{sym}
use Rattle.jfs_room.specs.bmap.specs.States.{Reserved}
use Rattle.jfs_room.specs.bmap.proofs.Puts.{put-none}
use Rattle.jfs_claim.proofs.reserve.take_run.Goals as goal

pub returns-then-not-wanted-clause-reserved : goal.returns-then-not-wanted-clause-reserved
returns-then-not-wanted-clause-reserved c = sym (put-none Reserved c.args.map.now)
