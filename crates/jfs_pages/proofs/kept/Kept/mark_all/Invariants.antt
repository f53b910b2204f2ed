use Rattle.std.proofs.Common.{◌≡◌, ℕ, true, drop}
use Rattle.jfs_pages.specs.Dirty.{dirty_of, is_among}
use Rattle.jfs_pages.specs.Pages.{bytes_in}
use Rattle.jfs_pages.specs.Steps.{marked_after}
use Rattle.jfs_pages.proofs.kept.Kept.mark_all.Given as goal

abbrev pub invariant-loop-map : goal.invariant-loop-map
invariant-loop-map l = record {
  pages : (q : ℕ) → bytes_in l.self.pages q ≡ bytes_in l.fn.self.pages q;
  dirty : (q : ℕ) → marked_after q l.entry (drop l.map-index l.maps) (dirty_of l.self.changes.dirty.items q) ≡ marked_after q l.entry l.maps (dirty_of l.fn.self.changes.dirty.items q);
  held : l.self.changes.held.items ≡ l.fn.self.changes.held.items;
  rest : (q : ℕ) → is_among q (drop l.map-index l.maps) ≡ true → is_among q l.fn.self.changes.held.items ≡ true;
}
