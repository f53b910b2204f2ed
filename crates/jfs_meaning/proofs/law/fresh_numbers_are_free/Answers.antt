use Rattle.jfs_meaning.proofs.Fresh.{fresh_law}
use Rattle.jfs_meaning.proofs.law.fresh_numbers_are_free.Goals as goal

pub returns : goal.returns
returns c = fresh_law
