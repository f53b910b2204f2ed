use Rattle.std.proofs.Common.{◌≡◌, ◌<◌, ◌^◌, ℕ, true, drop}
use Rattle.jfs_ranges.specs.Apply.{touches_tx}
use Rattle.jfs_pages.specs.Dirty.{dirty_of, is_among}
use Rattle.jfs_pages.specs.Pages.{bytes_in}
use Rattle.jfs_pages.specs.Steps.{page_after, dirty_after}
use Rattle.jfs_pages.proofs.kept.Kept.edit_all.Given as goal

abbrev pub invariant-loop-edit : goal.invariant-loop-edit
invariant-loop-edit l = record {
  pages : (q : ℕ) → page_after q (drop l.edit-index l.tx) (bytes_in l.self.pages q) ≡ page_after q l.tx (bytes_in l.fn.self.pages q);
  dirty : (q : ℕ) → dirty_after q l.entry (drop l.edit-index l.tx) (dirty_of l.self.changes.dirty.items q) ≡ dirty_after q l.entry l.tx (dirty_of l.fn.self.changes.dirty.items q);
  held : l.self.changes.held.items ≡ l.fn.self.changes.held.items;
  rest : (q : ℕ) → touches_tx q (drop l.edit-index l.tx) ≡ true → is_among q l.fn.self.changes.held.items ≡ true;
  numbers : (q : ℕ) → touches_tx q (drop l.edit-index l.tx) ≡ true → q < 2 ^ 32;
}
