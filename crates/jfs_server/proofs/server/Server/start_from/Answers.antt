use Rattle.std.proofs.Common.{refl}
use Rattle.jfs_server.proofs.server.Server.start_from.Goals as goal

pub start-requires-clause-fresh : goal.start-requires-clause-fresh
start-requires-clause-fresh g c = record {
  super = g.I.MountedFrom.block;
  image = g.I.MountedFrom.image;
  mounted = c.requires.mounted;
  few = c.requires.faults;
  base_is = refl;
}
