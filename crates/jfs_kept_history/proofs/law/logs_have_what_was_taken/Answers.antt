use Rattle.jfs_kept_history.proofs.Items.{items_law}
use Rattle.jfs_kept_history.proofs.law.logs_have_what_was_taken.Goals as goal

pub returns : goal.returns
returns c = items_law
