use Rattle.jfs_map_check.proofs.Words.{word_decided}
use Rattle.jfs_map_check.proofs.compare.same_word.Goals as goal

pub returns : goal.returns
returns c =
    word_decided c.args.one.now c.args.other.now c.args.w c.get_u32.result c.get_u32-2.result c.get_u32.ensures.value c.get_u32-2.ensures.value c.get_u32.ensures.fits c.get_u32-2.ensures.fits
