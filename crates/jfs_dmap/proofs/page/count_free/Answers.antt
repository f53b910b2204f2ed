use Rattle.std.proofs.Common.{◌*◌, not, sym, arith}
use Rattle.jfs_bits.specs.Bits.{is_taken}
use Rattle.jfs_bits.proofs.Counts.{count_below-none, count_below-most}
use Rattle.jfs_dmap.proofs.Counted.{count-word}
use Rattle.jfs_dmap.proofs.page.count_free.Goals as goal

pub overflow_add-free : goal.overflow_add-free
overflow_add-free c = omega (arith, c.loop-word.invariant, count_below-most (32 * c.loop-word.word) (λ b. not (is_taken c.args.map.now b)))

pub loop-word-init : goal.loop-word-init
loop-word-init c = sym (count_below-none (λ b. not (is_taken c.args.map.now b)))

pub loop-word-preserved : goal.loop-word-preserved
loop-word-preserved c = rw (c.loop-word.invariant, c.count_zeros-free.ensures.value, c.get_u32.ensures.value) (sym (count-word c.args.map.now c.loop-word.word (rw c.get_u32.ensures.value at c.get_u32.ensures.fits)))
