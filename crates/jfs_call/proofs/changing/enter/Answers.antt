use Rattle.std.proofs.Common.{refl, inr}
use Rattle.jfs_call.proofs.Joining.{with_copy}
use Rattle.jfs_call.proofs.changing.enter.Goals as goal

pub returns-in_default : goal.returns-in_default
returns-in_default g c = inr (refl, refl)

pub returns : goal.returns
returns g c = with_copy g.D.Disk.tells g.D.Disk.tells_crashes c.args.caller c.args.request.now c.args.tx.now c.args.blocks.now c.args.volume.now c.append_call.new.self c.append_call.result c.in-Ok.call c.in-Ok.ensures c.append_call.ensures
