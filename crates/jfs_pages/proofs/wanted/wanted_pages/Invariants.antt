use Rattle.std.proofs.Common.{◌≡◌, ◌<◌, ◌^◌, ◌||◌, ℕ, true, drop}
use Rattle.jfs_ranges.specs.Apply.{touches_tx}
use Rattle.jfs_pages.specs.Dirty.{is_among}
use Rattle.jfs_pages.proofs.wanted.wanted_pages.Given as goal

abbrev pub invariant-loop-edit : goal.invariant-loop-edit
invariant-loop-edit l = record {
  pages : (q : ℕ) → (is_among q l.pages.items || touches_tx q (drop l.edit-index l.tx)) ≡ touches_tx q l.tx;
  numbers : (q : ℕ) → touches_tx q (drop l.edit-index l.tx) ≡ true → q < 2 ^ 32;
}
