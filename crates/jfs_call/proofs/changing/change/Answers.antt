use Rattle.jfs_call.proofs.Joining.{is_crowded, is_done, is_failed, is_out, is_unfit}
use Rattle.jfs_call.proofs.changing.change.Goals as goal

pub returns-in-Entered : goal.returns-in-Entered
returns-in-Entered g c = is_done g.D.Disk.tells g.D.Disk.tells_crashes c.args.caller c.args.request.now c.args.tx.now c.args.blocks.now c.args.volume.now c.enter.new.volume c.in-Entered.entry c.in-Entered.ensures

pub returns-in-NoRoom : goal.returns-in-NoRoom
returns-in-NoRoom g c = is_crowded g.D.Disk.tells g.D.Disk.tells_crashes c.args.caller c.args.request.now c.args.tx.now c.args.blocks.now c.args.volume.now c.enter.new.volume c.in-NoRoom.ensures

pub returns-in-Failed : goal.returns-in-Failed
returns-in-Failed g c =
    is_failed g.D.Disk.tells g.D.Disk.tells_crashes c.args.caller c.args.request.now c.args.tx.now c.args.blocks.now c.args.volume.now c.enter.new.volume c.refuse.new.volume c.in-Failed.fault c.refuse.result c.in-Failed.ensures c.refuse.ensures

pub returns-in-NoMemory : goal.returns-in-NoMemory
returns-in-NoMemory g c = is_out g.D.Disk.tells g.D.Disk.tells_crashes c.args.caller c.args.request.now c.args.tx.now c.args.blocks.now c.args.volume.now c.enter.new.volume c.in-NoMemory.ensures

pub returns-in-Unfit : goal.returns-in-Unfit
returns-in-Unfit g c = is_unfit g.D.Disk.tells g.D.Disk.tells_crashes c.args.caller c.args.request.now c.args.tx.now c.args.blocks.now c.args.volume.now c.enter.new.volume c.in-Unfit.ensures
