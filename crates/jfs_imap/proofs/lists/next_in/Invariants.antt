use Rattle.std.proofs.Common.{◌≡◌, ◌<◌, ◌≤◌, ℕ, false}
use Rattle.jfs_imap.specs.Lists.{is_listed}
use Rattle.jfs_imap.proofs.lists.next_in.Given as goal

abbrev pub invariant-loop-k : goal.invariant-loop-k
invariant-loop-k l = (j : ℕ) → l.from ≤ j → j < l.k → is_listed l.marks l.numag l.g j ≡ false
