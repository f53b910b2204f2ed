use Rattle.std.proofs.Common.{◌≡◌, length, drop, None}
use Rattle.jfs_bmap.specs.MapFile.{IsMapPage, is_in_use}
use Rattle.jfs_bmap.specs.States.{is_owned}
use Rattle.jfs_halves.specs.Parts.{OfEachHalf}
use Rattle.jfs_volume.specs.Shown.{ShowsUpto}
use Rattle.jfs_volume.specs.MapsHome.{block_pages}
use Rattle.jfs_volume.proofs.MapsWritten.{Reaches}
use Rattle.jfs_volume.proofs.volume.Volume.home_block_map.Given as goal

abbrev pub invariant-loop-n : goal.invariant-loop-n
invariant-loop-n g l = record {
  parts : l.self ≡ record l.fn.self { view = l.self.view; disk = l.self.disk; past = l.self.past; faults = l.self.faults; halted = l.self.halted };
  halted : l.self.halted ≡ None;
  faults : l.self.faults ≡ l.fn.self.faults;
  homes : OfEachHalf g.D.Disk.tells g.D.Disk.tells_crashes l.fn.self (λ seen asked half. Reaches seen asked (block_pages (length l.fn.self.map.states) 0 l.fn.self.files.blocks.places) (block_pages (length l.fn.self.map.states) l.n (drop l.n l.fn.self.files.blocks.places)) l.fn.self l.self half);
  shows : g.D.Disk.tells → ShowsUpto l.n l.fn.self.files.blocks.places (is_in_use (length l.fn.self.map.states)) (IsMapPage (length l.fn.self.map.states) l.fn.self.map.agsize (is_owned l.fn.self.map)) l.fn.self.view l.self.view;
}
