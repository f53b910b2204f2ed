use Rattle.std.proofs.Common.{Some, None}
use Rattle.jfs_call.proofs.Doing.{answered_by, does_where}
use Rattle.jfs_call.proofs.call.call_without_log.Goals as goal

pub returns-in-Some-clause-does : goal.returns-in-Some-clause-does
returns-in-Some-clause-does g c =
    does_where g.D.Disk.tells g.D.Disk.tells_crashes (record { client = c.args.client; line = c.args.line }) c.args.request.now c.args.now c.args.volume.now c.refuse.new.volume c.refuse.result (Some c.in-Some.fault) c.in-Some.ensures c.refuse.ensures

pub returns-in-Some-clause-answered : goal.returns-in-Some-clause-answered
returns-in-Some-clause-answered g c =
    answered_by g.D.Disk.tells g.D.Disk.tells_crashes (record { client = c.args.client; line = c.args.line }) c.args.request.now c.args.now c.args.volume.now c.refuse.new.volume c.refuse.result c.requires.fits (returns-in-Some-clause-does g c)

pub returns-in-None-clause-does : goal.returns-in-None-clause-does
returns-in-None-clause-does g c =
    does_where g.D.Disk.tells g.D.Disk.tells_crashes (record { client = c.args.client; line = c.args.line }) c.args.request.now c.args.now c.args.volume.now c.begin.new.volume c.begin.result None c.in-None.ensures c.begin.ensures

pub returns-in-None-clause-answered : goal.returns-in-None-clause-answered
returns-in-None-clause-answered g c =
    answered_by g.D.Disk.tells g.D.Disk.tells_crashes (record { client = c.args.client; line = c.args.line }) c.args.request.now c.args.now c.args.volume.now c.begin.new.volume c.begin.result c.requires.fits (returns-in-None-clause-does g c)
