use Rattle.std.proofs.Common.{◌≡◌, ◌<◌, ℕ, slice_index, IsSome}
use Rattle.jfs_pages.specs.Device.{IsSame}
use Rattle.jfs_pages.specs.Kept.{cached, shown, SameChanges, KeepsRead}
use Rattle.jfs_pages.proofs.cache.PageCache.load_all.Given as goal

abbrev pub invariant-loop-n : goal.invariant-loop-n
invariant-loop-n g l = record {
  there : (k : ℕ) → k < l.n-index → IsSome (cached l.self.kept (slice_index l.pages k));
  changes : SameChanges l.fn.self.kept l.self.kept;
  keeps : KeepsRead l.fn.self.kept l.self.kept;
  pages : g.D.Disk.tells → (q : ℕ) → shown (g.D.Disk.image l.self.disk) l.self.kept q ≡ shown (g.D.Disk.image l.fn.self.disk) l.fn.self.kept q;
  disk : IsSame g.D.Disk.tells g.D.Disk.tells_crashes (g.D.Disk.image l.fn.self.disk) (g.D.Disk.image l.self.disk) (g.D.Disk.past l.fn.self.disk) (g.D.Disk.past l.self.disk);
  blocks : l.self.blocks ≡ l.fn.self.blocks;
  count : g.D.Disk.page_count l.self.disk ≡ g.D.Disk.page_count l.fn.self.disk;
  room : g.D.Disk.room l.self.disk ≡ g.D.Disk.room l.fn.self.disk;
  faults : g.D.Disk.fault_count l.self.disk ≡ g.D.Disk.fault_count l.fn.self.disk;
}
