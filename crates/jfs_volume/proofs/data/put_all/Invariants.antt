use Rattle.std.proofs.Common.{◌≡◌, drop, Result}
use Rattle.jfs_disk.specs.declared.disk.Fault.{Fault}
use Rattle.jfs_marks.specs.data_steps.specs.After.{LieWithin}
use Rattle.jfs_pages.specs.Kept.{dirty_in, held_in}
use Rattle.jfs_volume.specs.Data.{Store, PutsAll, store_of}
use Rattle.jfs_volume.proofs.data.put_all.Given as goal

abbrev pub invariant-loop-i : goal.invariant-loop-i
invariant-loop-i g l = record {
  rest : (new : Store) (result : Result (Unit {0}) Fault) → PutsAll g.D.Disk.tells g.D.Disk.tells_crashes (drop l.i l.contents) (dirty_in l.fn.cache.kept) (store_of g.D.Disk l.cache) new result →
      PutsAll g.D.Disk.tells g.D.Disk.tells_crashes l.contents (dirty_in l.fn.cache.kept) (store_of g.D.Disk l.fn.cache) new result;
  within : LieWithin l.fn.cache.blocks (drop l.i l.contents);
  dirty : dirty_in l.cache.kept ≡ dirty_in l.fn.cache.kept;
  held : held_in l.cache.kept ≡ held_in l.fn.cache.kept;
  parts : (l.cache.blocks ≡ l.fn.cache.blocks) × (g.D.Disk.page_count l.cache.disk ≡ g.D.Disk.page_count l.fn.cache.disk) × (g.D.Disk.room l.cache.disk ≡ g.D.Disk.room l.fn.cache.disk);
  faults : g.D.Disk.fault_count l.cache.disk ≡ g.D.Disk.fault_count l.fn.cache.disk;
}
