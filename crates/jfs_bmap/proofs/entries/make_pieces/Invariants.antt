use Rattle.std.proofs.Common.{◌≡◌, ℕ, length}
use Rattle.jfs_bmap.specs.Freed.{entry_at}
use Rattle.jfs_bmap.proofs.entries.make_pieces.Given as goal

abbrev pub invariant-loop-k : goal.invariant-loop-k
invariant-loop-k l = record {
  size : length l.pieces.items ≡ l.k;
  same : (b : ℕ) → entry_at l.pieces.items b ≡ entry_at l.fn.pieces.items b;
}
