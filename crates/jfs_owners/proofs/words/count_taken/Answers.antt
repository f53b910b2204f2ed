use Rattle.std.proofs.Common.{◌<◌, ◌*◌, sym, ◌∙◌, arith}
use Rattle.jfs_owners.proofs.SetBits.{no_words, next_word, word_fits, all_words}
use Rattle.jfs_owners.proofs.words.count_taken.Goals as goal

pub loop-w-init : goal.loop-w-init
loop-w-init c = sym (no_words c.args.set.now c.args.n)

pub loop-w-preserved : goal.loop-w-preserved
loop-w-preserved c =
    let left : 32 * c.loop-w.w < c.args.n = (let d = c.div_ceil-w-end.ensures in let t = c.loop-w-test.true in omega (arith, d, t)) in
    rw (c.loop-w.invariant, c.get_u32.ensures.value)
    (sym (next_word c.args.set.now c.loop-w.w c.args.n c.mask_of-mask.result (rw c.get_u32.ensures.value at c.get_u32.ensures.fits) left (rw c.min.ensures at c.mask_of-mask.ensures)))

pub overflow_add-count : goal.overflow_add-count
overflow_add-count c =
    let left : 32 * c.loop-w.w < c.args.n = (let d = c.div_ceil-w-end.ensures in let t = c.loop-w-test.true in omega (arith, d, t)) in
    let fits = word_fits c.args.set.now c.loop-w.w c.args.n c.mask_of-mask.result (rw c.get_u32.ensures.value at c.get_u32.ensures.fits) left (rw c.min.ensures at c.mask_of-mask.ensures) in
    rw c.get_u32.ensures.value (omega (arith, fits, c.ranges.n.fits, c.loop-w.invariant))

pub returns : goal.returns
returns c = c.loop-w.invariant ∙ all_words c.args.set.now c.loop-w.w c.args.n (let d = c.div_ceil-w-end.ensures in let t = c.loop-w-test.false in omega (arith, d, t))
