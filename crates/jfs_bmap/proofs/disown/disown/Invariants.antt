use Rattle.std.proofs.Common.{◌≡◌, ℕ, not, ◌&&◌, length}
use Rattle.std.specs.Prelude.{if◌then◌else◌}
use Rattle.jfs_bits.specs.Bits.{is_in_run}
use Rattle.jfs_bmap.specs.Set.{taken_at, cleared}
use Rattle.jfs_bmap.specs.Freed.{entry_at}
use Rattle.jfs_bmap.proofs.disown.disown.Given as goal

abbrev pub invariant-loop-i : goal.invariant-loop-i
invariant-loop-i l = record {
  owned : l.owned ≡ cleared l.run.first l.i l.initial.owned;
  blocks : length l.held ≡ length l.initial.held;
  held : (b : ℕ) → taken_at l.held b ≡ (not (is_in_run l.run.first l.i b && taken_at l.initial.owned b) && taken_at l.initial.held b);
  entries : (b : ℕ) → entry_at l.entries b ≡ (if is_in_run l.run.first l.i b && taken_at l.initial.owned b then l.run.entry else entry_at l.initial.entries b);
}
