use Rattle.jfs_server.proofs.served.ServedVolumeCollectedRecorded.take_group.Goals as goal

pub returns : goal.returns
returns g c = record { takes = λ base list taken told points known s. c.take_group.ensures.takes base list taken told points known s }
