use Rattle.jfs_entered.proofs.Behind.{behind_law}
use Rattle.jfs_entered.proofs.law.tested_transactions_free_behind.Goals as goal

pub returns : goal.returns
returns c = behind_law
