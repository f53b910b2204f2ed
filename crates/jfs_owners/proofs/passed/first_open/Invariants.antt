use Rattle.std.proofs.Common.{◌≡◌, ◌≤◌, ◌<◌, ◌-◌, ℕ, List, length}
use Rattle.jfs_owners.specs.Passed.{AreShared, AreGroups, PassesShared}
use Rattle.jfs_owners.proofs.passed.first_open.Given as goal

abbrev pub invariant-loop-at : goal.invariant-loop-at
invariant-loop-at l = record {
  size : length l.later ≡ length l.initial.later;
  from : l.fn.group ≤ l.at;
  most : l.at ≤ length l.later;
  ends : AreGroups l.later;
  passed : (shared : List ℕ) → PassesShared shared l.initial.later → AreShared shared l.fn.group l.at;
  passes : (shared : List ℕ) → PassesShared shared l.initial.later → PassesShared shared l.later;
}

abbrev pub decreases-loop-at : goal.decreases-loop-at
decreases-loop-at l = length l.later - l.at
