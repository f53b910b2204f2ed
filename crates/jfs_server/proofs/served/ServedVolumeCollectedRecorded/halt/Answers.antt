use Rattle.jfs_server.proofs.served.ServedVolumeCollectedRecorded.halt.Goals as goal

pub halt-requires : goal.halt-requires
halt-requires g c = record { stands = c.requires.stands }

pub returns : goal.returns
returns g c = record { halts = λ base list taken told points known s. c.halt.ensures.halts base list taken told points known s }
