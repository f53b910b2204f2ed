use Rattle.jfs_server.proofs.Making.{together, pointed, partly}
use Rattle.jfs_server.proofs.served.ServedVolumeServesRecorded.point.Goals as goal

pub point_with-requires-clause-together : goal.point_with-requires-clause-together
point_with-requires-clause-together g c = together g.D.Disk c.args.self.now.shared c.args.log.now c.requires.together

pub returns-in-Ok : goal.returns-in-Ok
returns-in-Ok g c = record { makes = pointed g.D.Disk c.args.self.now.shared c.args.log.now c.point_with.new.shared c.point_with.new.log c.in-Ok.ensures.point }

pub returns-in-Err : goal.returns-in-Err
returns-in-Err g c = record { makes = partly g.D.Disk c.args.self.now.shared c.args.log.now c.point_with.new.shared c.point_with.new.log c.in-Err.ensures.point }
