use Rattle.jfs_shared.specs.Start.{base_at}
use Rattle.jfs_server.proofs.server.Server.start_from.Given as goal

abbrev pub ghosts-start : goal.ghosts-start
ghosts-start g a = record { base = base_at g.I.MountedFrom.block g.I.MountedFrom.image a.m.volume (g.D.Disk.page_count a.m.log.part) (g.D.Disk.fault_count a.m.log.part) }
