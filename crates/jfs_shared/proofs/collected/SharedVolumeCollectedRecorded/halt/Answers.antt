use Rattle.jfs_shared.proofs.collected.SharedVolumeCollectedRecorded.halt.Goals as goal

pub returns : goal.returns
returns g c = record { halts = c.halt_for_log.ensures.halts }
