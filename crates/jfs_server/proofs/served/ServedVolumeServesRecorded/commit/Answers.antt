use Rattle.jfs_server.proofs.Making.{together, committed, lost}
use Rattle.jfs_server.proofs.served.ServedVolumeServesRecorded.commit.Goals as goal

pub commit_with-requires-clause-together : goal.commit_with-requires-clause-together
commit_with-requires-clause-together g c = together g.D.Disk c.args.self.now.shared c.args.log.now c.requires.together

pub returns-in-Ok : goal.returns-in-Ok
returns-in-Ok g c = record { makes = committed g.D.Disk c.args.self.now.shared c.args.log.now c.commit_with.new.shared c.commit_with.new.log c.in-Ok.ensures.commit }

pub returns-in-Err : goal.returns-in-Err
returns-in-Err g c = record { makes = lost g.D.Disk c.args.self.now.shared c.args.log.now c.commit_with.new.shared c.commit_with.new.log c.in-Err.ensures.commit }
