use Rattle.std.proofs.Common.{◌≡◌, ℕ, ◌≤◌, ◌-◌, ◌&&◌, ◌||◌, nat_le, nat_lt}
use Rattle.jfs_pages.specs.Dirty.{is_among}
use Rattle.jfs_pages.proofs.wanted.push_pages.Given as goal

abbrev pub invariant-loop-n : goal.invariant-loop-n
invariant-loop-n l = record {
  from : l.initial.n ≤ l.n;
  to : l.n - l.initial.n ≤ l.n-end - l.initial.n;
  pages : (q : ℕ) → is_among q l.pages.items ≡ (is_among q l.fn.pages.items || (nat_le l.initial.n q && nat_lt q l.n));
}
