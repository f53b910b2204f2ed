use Rattle.std.proofs.Common.{◌≡◌, ◌+◌, ◌*◌, ◌<◌, ◌-◌, ◌≤◌, ℕ, ◌&&◌, ◌||◌, true, length}
use Rattle.std.specs.Prelude.{nat_le, nat_lt}
use Rattle.jfs_bits.specs.Bits.{is_taken}
use Rattle.jfs_owners.specs.Passed.{AreGroups, PassesShared}
use Rattle.jfs_owners.proofs.words.add_run.Given as goal

abbrev pub invariant-loop-owned : goal.invariant-loop-owned
invariant-loop-owned l = record {
  owned : (b : ℕ) → is_taken l.owned b ≡ ((nat_le l.fn.first b && nat_lt b l.fn.end) && nat_lt b (1024 * l.group) || is_taken l.initial.owned b);
  shared : (b : ℕ) → is_taken l.shared b ≡ ((nat_le l.fn.first b && nat_lt b l.fn.end) && nat_lt b (1024 * l.group) && is_taken l.initial.owned b || is_taken l.initial.shared b);
  ends : AreGroups l.later;
  passes : PassesShared l.shared l.later;
  sizes : length l.owned ≡ length l.initial.owned;
  same : length l.shared ≡ length l.initial.shared;
  groups : length l.later ≡ length l.initial.later;
  from : l.fn.first < 1024 * l.group + 1024;
  most : l.group ≤ length l.later;
}

abbrev pub decreases-loop-owned : goal.decreases-loop-owned
decreases-loop-owned l = length l.later - l.group
