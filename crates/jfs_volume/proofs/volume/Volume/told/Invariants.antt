use Rattle.std.proofs.Common.{◌≡◌, ◌<◌, ◌≤◌, ℕ, false, Some, slice_get}
use Rattle.jfs_disk.specs.Image.{page_of}
use Rattle.jfs_bmap.specs.States.{blocks_settled}
use Rattle.jfs_pages.specs.Dirty.{dirty_of}
use Rattle.jfs_halves.specs.declared.freed.FreedPage.{FreedPage}
use Rattle.jfs_halves.specs.Parts.{OfEachHalf}
use Rattle.jfs_volume.specs.Settles.{is_freed}
use Rattle.jfs_volume.specs.Told.{IsTold, MayBeDropped}
use Rattle.jfs_volume.proofs.volume.Volume.told.Given as goal

abbrev pub invariant-loop-i : goal.invariant-loop-i
invariant-loop-i g l = record {
  parts : l.self ≡ record l.fn.self { view = l.self.view; dirty = l.self.dirty; told = l.n; map = blocks_settled l.n l.fn.self.map };
  told : OfEachHalf g.D.Disk.tells g.D.Disk.tells_crashes l.fn.self (λ seen asked half. IsTold seen asked l.n l.fn.self l.self half);
  shows : g.D.Disk.tells → (q : ℕ) → is_freed l.fn.self.freed q ≡ false → page_of l.self.view q ≡ page_of l.fn.self.view q;
  dropped : (j : ℕ) (f : FreedPage) → j < l.i → slice_get l.fn.self.freed j ≡ Some f → f.by_entry ≤ l.n → MayBeDropped f (dirty_of l.self.dirty f.page) → ⊥;
}
