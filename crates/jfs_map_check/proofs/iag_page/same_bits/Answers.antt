use Rattle.jfs_map_check.proofs.Words.{words_more}
use Rattle.jfs_map_check.proofs.iag_page.same_bits.Goals as goal

pub loop-w-preserved : goal.loop-w-preserved
loop-w-preserved c = words_more c.args.one.now c.args.other.now c.loop-w.w c.loop-w.invariant (c.same_word.ensures.0 c.if-not-same_word.false)
