use Rattle.std.proofs.Common.{◌≡◌, ◌<◌, ◌-◌, ◌*◌, ◌+◌, ◌&&◌, ◌∙◌, ℕ}
use Rattle.std.specs.Prelude.{max, min, nat_le, nat_lt}
use Rattle.jfs_bits.specs.Bits.{is_taken, is_taken_in}
use Rattle.jfs_owners.proofs.Marks.{more_owned, more_shared}
use Rattle.jfs_owners.proofs.words.add_part.Goals as goal

pub loop-w-preserved : goal.loop-w-preserved
loop-w-preserved c =
    let is : (i : ℕ) → i < 32 → is_taken_in c.mask_of.result i ≡ (nat_le (max c.args.first (32 * c.loop-w.w) - 32 * c.loop-w.w) i && nat_lt i (min c.args.end (32 * c.loop-w.w + 32) - 32 * c.loop-w.w)) =
    λ i h. (rw (c.max.ensures, c.min.ensures) at c.mask_of.ensures i h) in
    record {
      owned = λ b. c.add_in_word.ensures.owned b
          ∙ rw c.loop-w.invariant.owned (more_owned c.args.first c.args.end c.loop-w.w c.mask_of.result b c.requires.order is (is_taken c.args.owned.now b));
      shared = λ b. c.add_in_word.ensures.shared b
          ∙ rw (c.loop-w.invariant.owned, c.loop-w.invariant.shared) (more_shared c.args.first c.args.end c.loop-w.w c.mask_of.result b c.requires.order is (is_taken c.args.owned.now b) (is_taken c.args.shared.now b));
    }
