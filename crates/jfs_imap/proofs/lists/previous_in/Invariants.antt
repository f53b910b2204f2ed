use Rattle.std.proofs.Common.{◌≡◌, ◌<◌, ◌≤◌, ℕ, false}
use Rattle.jfs_imap.specs.Lists.{is_listed}
use Rattle.jfs_imap.proofs.lists.previous_in.Given as goal

abbrev pub invariant-loop-k : goal.invariant-loop-k
invariant-loop-k l = record {
  most : l.k ≤ l.before;
  none : (j : ℕ) → l.k ≤ j → j < l.before → is_listed l.marks l.numag l.g j ≡ false;
}

abbrev pub decreases-loop-k : goal.decreases-loop-k
decreases-loop-k l = l.k
