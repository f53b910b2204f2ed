use Rattle.jfs_bits.proofs.Words.{is_taken-but}
use Rattle.jfs_bits.proofs.bits.clear_in_word.Goals as goal

pub returns : goal.returns
returns c b = rw (c.put_u32.ensures.bytes, c.get_u32-word.ensures.value) (is_taken-but c.args.map.now c.args.w c.args.mask b c.requires.whole_words c.requires.within (rw c.get_u32-word.ensures.value at c.get_u32-word.ensures.fits) c.ranges.mask.fits)
