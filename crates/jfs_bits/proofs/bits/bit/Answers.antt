use Rattle.std.proofs.Common.{◌∙◌, ◌%◌, refl}
use Rattle.jfs_bits.specs.Bits.{is_taken}
use Rattle.jfs_bits.proofs.Words.{is_taken_in-test}
use Rattle.jfs_bits.proofs.bits.bit.Goals as goal

pub returns : goal.returns
unfolding is_taken
returns c = is_taken_in-test c.get_u32-word.result (c.args.i % 32) ∙ rw c.get_u32-word.ensures.value refl
