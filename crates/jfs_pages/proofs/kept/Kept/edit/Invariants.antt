use Rattle.std.proofs.Common.{◌≡◌, ℕ, ◌≤◌, ◌-◌, ◌&&◌, nat_le, nat_lt, if◌then◌else◌, option_map}
use Rattle.jfs_pages.specs.Dirty.{dirty_of, touched_by}
use Rattle.jfs_pages.specs.Pages.{bytes_in}
use Rattle.jfs_ranges.specs.Apply.{apply_edit}
use Rattle.jfs_pages.proofs.kept.Kept.edit.Given as goal

abbrev pub invariant-loop-n : goal.invariant-loop-n
invariant-loop-n l = record {
  from : l.initial.n ≤ l.n;
  to : l.n - l.initial.n ≤ l.n-end - l.initial.n;
  pages : (q : ℕ) → bytes_in l.self.pages q ≡ (if nat_le l.initial.n q && nat_lt q l.n then option_map (apply_edit q l.edit) (bytes_in l.fn.self.pages q) else bytes_in l.fn.self.pages q);
  dirty : (q : ℕ) → dirty_of l.self.changes.dirty.items q ≡ touched_by (nat_le l.initial.n q && nat_lt q l.n) q l.entry (dirty_of l.fn.self.changes.dirty.items q);
  held : l.self.changes.held.items ≡ l.fn.self.changes.held.items;
}
