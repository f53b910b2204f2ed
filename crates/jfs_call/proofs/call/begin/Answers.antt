use Rattle.std.proofs.Common.{◌∙◌, sym}
use Rattle.jfs_call.proofs.Doing.{does_file, does_sync}
use Rattle.jfs_call.proofs.call.begin.Goals as goal

pub returns-then-is_sync : goal.returns-then-is_sync
returns-then-is_sync g c =
    does_sync g.D.Disk.tells g.D.Disk.tells_crashes c.args.caller c.args.request.now c.args.now c.args.volume.now c.sync.new.volume c.sync.result (sym c.is_sync.ensures ∙ c.if-is_sync.true) c.sync.ensures

pub returns : goal.returns
returns g c = does_file g.D.Disk.tells g.D.Disk.tells_crashes c.args.caller c.args.request.now c.args.now c.args.volume.now c.ask.new.volume c.ask.result (sym c.is_sync.ensures ∙ c.if-is_sync.false) c.ask.ensures
