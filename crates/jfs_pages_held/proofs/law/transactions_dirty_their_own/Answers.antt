use Rattle.jfs_pages_held.proofs.Own.{own_law}
use Rattle.jfs_pages_held.proofs.law.transactions_dirty_their_own.Goals as goal

pub returns : goal.returns
returns c = own_law
