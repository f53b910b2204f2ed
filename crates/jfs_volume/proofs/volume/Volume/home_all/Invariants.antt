use Rattle.std.proofs.Common.{◌≡◌, ◌≤◌, ℕ, List}
use Rattle.jfs_pages.specs.Dirty.{IsDirty}
use Rattle.jfs_halves.specs.Parts.{OfEachHalf}
use Rattle.jfs_halves.specs.Moves.{Moves}
use Rattle.jfs_volume.specs.Settle.{go_home, KeepsCounts}
use Rattle.jfs_volume.specs.Settles.{HomesAlone}
use Rattle.jfs_volume.proofs.volume.Volume.home_all.Given as goal

abbrev pub invariant-loop-n : goal.invariant-loop-n
invariant-loop-n g l = record {
  counts : KeepsCounts l.fn.self l.self;
  alone : HomesAlone g.D.Disk.tells l.fn.self l.self;
  halted : l.self.halted ≡ l.fn.self.halted;
  faults : l.self.faults ≡ l.fn.self.faults;
  above : (q : ℕ) → IsDirty l.self.dirty q → l._n ≤ q;
  homes : OfEachHalf g.D.Disk.tells g.D.Disk.tells_crashes l.fn.self (λ seen asked half. (pages : List ℕ) × Moves seen asked l.fn.self l.self half (go_home pages));
}
