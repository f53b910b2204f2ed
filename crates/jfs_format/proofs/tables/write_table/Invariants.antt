use Rattle.std.proofs.Common.{◌≡◌}
use Rattle.jfs_format.specs.Inodes.{inode_in, IsTablePage}
use Rattle.jfs_format.specs.Volume.{HasPages}
use Rattle.jfs_format.specs.Wrote.{WroteWithin}
use Rattle.jfs_format.proofs.tables.write_table.Given as goal

abbrev pub invariant-loop-k : goal.invariant-loop-k
invariant-loop-k g l = record {
  faults : g.D.Disk.fault_count l.disk ≡ g.D.Disk.fault_count l.initial.disk;
  wrote : WroteWithin g.D.Disk l.first 4 l.initial.disk l.disk;
  table : g.D.Disk.tells → HasPages l.first l.k (IsTablePage (inode_in l.table l.v)) (g.D.Disk.image l.disk);
}
