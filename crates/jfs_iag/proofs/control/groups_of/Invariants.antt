use Rattle.std.proofs.Common.{◌≡◌, ◌<◌, ℕ, length, get_or}
use Rattle.jfs_iag.specs.Control.{group_at, no_group}
use Rattle.jfs_iag.proofs.control.groups_of.Given as goal

abbrev pub invariant-loop-g : goal.invariant-loop-g
invariant-loop-g l = record {
  size : length l.groups ≡ 128;
  value : (j : ℕ) → j < l.g → get_or l.groups j no_group ≡ group_at l.bytes j;
}
