use Rattle.std.proofs.Common.{◌≡◌, ◌+◌, ◌*◌, ◌<◌, ℕ}
use Rattle.jfs_bits.specs.Field.{field_of}
use Rattle.jfs_map_check.proofs.compare.same_groups.Given as goal

abbrev pub invariant-loop-k : goal.invariant-loop-k
invariant-loop-k l = (j : ℕ) → j < l.k → field_of l.one (56 + 8 * j) 8 ≡ field_of l.other (56 + 8 * j) 8
