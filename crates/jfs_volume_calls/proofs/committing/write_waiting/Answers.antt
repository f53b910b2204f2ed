use Rattle.jfs_volume_calls.specs.Together.{log_parts}
use Rattle.jfs_volume_calls.proofs.Chained.{idle_closes, written_group}
use Rattle.jfs_volume_calls.proofs.committing.write_waiting.Goals as goal

pub returns-then-is_idle-clause-write : goal.returns-then-is_idle-clause-write
returns-then-is_idle-clause-write g c seen asked told crashes both s t none = idle_closes seen asked c.args.volume.now (log_parts g.D.Disk c.args.log.now) both s t none

pub returns-clause-write : goal.returns-clause-write
returns-clause-write g c seen asked told crashes both s t none = written_group seen asked c.args.volume.now c.write.new.volume (log_parts g.D.Disk c.write.new.log) both c.write.result (c.write.ensures.group seen asked told crashes both s t none)
