use Rattle.jfs_bits.proofs.Words.{is_taken-or}
use Rattle.jfs_owners.proofs.Marks.{marked_again}
use Rattle.jfs_owners.proofs.words.add_in_word.Goals as goal

pub returns-clause-owned : goal.returns-clause-owned
returns-clause-owned c b =
    rw (c.put_u32-2.ensures.bytes, c.get_u32-word.ensures.value)
    (is_taken-or c.args.owned.now c.args.w c.args.mask b c.requires.whole_words c.requires.within (rw c.get_u32-word.ensures.value at c.get_u32-word.ensures.fits) c.ranges.mask.fits)

pub returns-clause-shared : goal.returns-clause-shared
returns-clause-shared c b =
    rw (c.put_u32.ensures.bytes, c.get_u32-twice.ensures.value, c.get_u32-word.ensures.value)
    (marked_again c.args.owned.now c.args.shared.now c.args.w c.args.mask b (rw c.requires.same c.requires.whole_words) (rw c.requires.same c.requires.within)
    (rw c.get_u32-twice.ensures.value at c.get_u32-twice.ensures.fits) (rw c.get_u32-word.ensures.value at c.get_u32-word.ensures.fits))
