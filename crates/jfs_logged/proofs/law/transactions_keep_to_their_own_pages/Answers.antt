use Rattle.jfs_logged.proofs.Own.{own_law}
use Rattle.jfs_logged.proofs.law.transactions_keep_to_their_own_pages.Goals as goal

pub returns : goal.returns
returns c = own_law
