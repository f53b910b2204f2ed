use Rattle.std.proofs.Common.{◌≡◌, ◌<◌, ◌*◌, ℕ, length, drop}
use Rattle.jfs_bits.specs.Bits.{is_taken}
use Rattle.jfs_records.specs.Redo.{all_of}
use Rattle.jfs_steps.specs.After.{used_after}
use Rattle.jfs_redo_steps.proofs.blocks.redo_blocks.Given as goal

abbrev pub invariant-loop-tx : goal.invariant-loop-tx
invariant-loop-tx l = (length l.set ≡ length l.fn.set) × ((b : ℕ) → b < 8 * length l.fn.set → used_after (all_of (drop l.tx-index l.transactions)) (is_taken l.set) b ≡ used_after (all_of l.transactions) (is_taken l.fn.set) b)
