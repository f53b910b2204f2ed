use Rattle.jfs_server.proofs.served.ServedVolumeCollectedRecorded.told.Goals as goal

pub told-requires : goal.told-requires
told-requires g c = record { may = c.requires.may }

pub returns : goal.returns
returns g c = record { tells = λ base list taken told points known s. c.told.ensures.tells base list taken told points known s }
