use Rattle.std.proofs.Common.{◌≡◌, ◌<◌, ◌*◌, ℕ, length, drop}
use Rattle.jfs_bits.specs.Bits.{is_taken}
use Rattle.jfs_steps.specs.After.{used_after}
use Rattle.jfs_redo_steps.proofs.blocks.mark_tx.Given as goal

abbrev pub invariant-loop-edit : goal.invariant-loop-edit
invariant-loop-edit l = (length l.set ≡ length l.fn.set) × ((b : ℕ) → b < 8 * length l.fn.set → used_after (drop l.edit-index l.tx) (is_taken l.set) b ≡ used_after l.tx (is_taken l.fn.set) b)
