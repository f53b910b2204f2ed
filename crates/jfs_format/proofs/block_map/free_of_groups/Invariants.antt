use Rattle.std.proofs.Common.{◌≡◌, ◌<◌, ◌+◌, ◌*◌, ℕ, not, length, get_or}
use Rattle.jfs_bits.specs.Bits.{count_below}
use Rattle.jfs_format.specs.Layout.{is_taken_block}
use Rattle.jfs_format.proofs.block_map.free_of_groups.Given as goal

abbrev pub invariant-loop-g : goal.invariant-loop-g
invariant-loop-g l = record {
  size : length l.groups ≡ 128;
  each : (j : ℕ) → j < l.g → get_or l.groups j 0 ≡ count_below l.l.agsize (λ i. not (is_taken_block l.l (l.l.agsize * j + i)));
}
