use Rattle.std.proofs.Common.{◌≡◌, ◌+◌}
use Rattle.jfs_imap.specs.Inodes.{IsInodePage}
use Rattle.jfs_format.specs.Volume.{HasPages, iags_of, inodes_in}
use Rattle.jfs_format.specs.Wrote.{WroteWithin}
use Rattle.jfs_format.proofs.inode_map.write_inode_map.Given as goal

abbrev pub invariant-loop-n : goal.invariant-loop-n
invariant-loop-n g l = record {
  faults : g.D.Disk.fault_count l.disk ≡ g.D.Disk.fault_count l.initial.disk;
  wrote : WroteWithin g.D.Disk l.first (1 + iags_of l.table l.l) l.initial.disk l.disk;
  map : g.D.Disk.tells → HasPages l.first l.n (IsInodePage (inodes_in l.table l.l)) (g.D.Disk.image l.disk);
}
