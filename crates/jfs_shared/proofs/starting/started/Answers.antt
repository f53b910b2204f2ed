use Rattle.std.proofs.Common.{refl}
use Rattle.jfs_kept_history.specs.legal.specs.served.specs.volume_calls.specs.Together.{log_parts}
use Rattle.jfs_groups.specs.Log.{data_of}
use Rattle.jfs_shared.proofs.Begun.{volume_stands, begun_stands}
use Rattle.jfs_shared.proofs.starting.started.Goals as goal

pub returns-clause-stands : goal.returns-clause-stands
returns-clause-stands g c s image m few log_few =
    let d = g.D.Disk in (
      volume_stands d.tells d.tells_crashes s image c.args.m.volume (log_parts d c.args.m.log) m (d.page_count c.args.m.log.part) (d.fault_count c.args.m.log.part) few,
      begun_stands d.tells d.tells_crashes s image c.args.m.volume (log_parts d c.args.m.log) m (data_of d (record { side = c.args.m.log; points = 0 })) refl refl refl refl refl refl (g.met.D.Disk.reads_now c.args.m.log.part) log_few,
    )
