use Rattle.std.proofs.Common.{sym, ◌∙◌}
use Rattle.jfs_room.specs.bmap.specs.States.{Free}
use Rattle.jfs_room.specs.bmap.proofs.States.{in_list-one}
use Rattle.jfs_room.specs.bmap.proofs.Puts.{put-none}
use Rattle.jfs_claim.proofs.reserve.give_back_run.Goals as goal

pub give_back_run-requires : goal.give_back_run-requires
give_back_run-requires c b h = (rw c.in-Some.is at c.requires).reserved b (in_list-one c.in-Some.run' b ∙ h)

pub returns-in-None : goal.returns-in-None
returns-in-None c = rw c.in-None.is (sym (put-none Free c.args.map.now))
