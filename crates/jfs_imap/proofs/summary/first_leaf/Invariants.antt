use Rattle.std.proofs.Common.{◌≡◌, ◌-◌, ◌*◌, ◌^◌, ◌<◌, ◌≤◌, ℕ, true, false, get_or}
use Rattle.jfs_imap.proofs.summary.first_leaf.Given as goal

abbrev pub invariant-loop-level : goal.invariant-loop-level
invariant-loop-level l = record {
  low : 2 ^ l._level ≤ l.node;
  high : l.node < 2 * 2 ^ l._level;
  marked : get_or l.nodes l.node false ≡ true;
  before : (leaf : ℕ) → l.leaves ≤ leaf → leaf < l.node * 2 ^ (l.height - l._level) → get_or l.nodes leaf false ≡ false;
}
