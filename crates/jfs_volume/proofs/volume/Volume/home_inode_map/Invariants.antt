use Rattle.std.proofs.Common.{◌≡◌, true, drop, None}
use Rattle.jfs_imap.specs.Inodes.{IsInodePage}
use Rattle.jfs_halves.specs.Parts.{OfEachHalf}
use Rattle.jfs_volume.specs.Shown.{ShowsUpto}
use Rattle.jfs_volume.specs.MapsHome.{inode_pages}
use Rattle.jfs_volume.proofs.MapsWritten.{Reaches}
use Rattle.jfs_volume.proofs.volume.Volume.home_inode_map.Given as goal

abbrev pub invariant-loop-n : goal.invariant-loop-n
invariant-loop-n g l = record {
  parts : l.self ≡ record l.fn.self { view = l.self.view; disk = l.self.disk; past = l.self.past; faults = l.self.faults; halted = l.self.halted };
  halted : l.self.halted ≡ None;
  faults : l.self.faults ≡ l.fn.self.faults;
  homes : OfEachHalf g.D.Disk.tells g.D.Disk.tells_crashes l.fn.self (λ seen asked half. Reaches seen asked (inode_pages 0 l.fn.self.files.inodes.places) (inode_pages l.n (drop l.n l.fn.self.files.inodes.places)) l.fn.self l.self half);
  shows : g.D.Disk.tells → ShowsUpto l.n l.fn.self.files.inodes.places (λ n. true) (IsInodePage l.fn.self.inodes) l.fn.self.view l.self.view;
}
