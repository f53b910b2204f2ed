use Rattle.std.proofs.Common.{◌≡◌, ◌≢◌, ◌+◌, ◌*◌, ◌/◌, ◌<◌, ◌||◌, ℕ, false, length, drop, get_or, set}
use Rattle.jfs_imap.proofs.summary.mark.Given as goal

abbrev pub invariant-loop-node : goal.invariant-loop-node
invariant-loop-node l = record {
  some : 0 < l.node;
  within : l.node < 2 * l.leaves;
  size : length l.nodes ≡ 2 * l.leaves;
  marks : drop l.leaves l.nodes ≡ set (drop l.leaves l.fn.nodes) l.i l.marked;
  joined : (j : ℕ) → 0 < j → j < l.leaves → j ≢ l.node / 2 → get_or l.nodes j false ≡ (get_or l.nodes (2 * j) false || get_or l.nodes (2 * j + 1) false);
}

abbrev pub decreases-loop-node : goal.decreases-loop-node
decreases-loop-node l = l.node
