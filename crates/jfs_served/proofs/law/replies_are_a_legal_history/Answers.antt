use Rattle.jfs_served.proofs.History.{history_law}
use Rattle.jfs_served.proofs.law.replies_are_a_legal_history.Goals as goal

pub returns : goal.returns
returns c = history_law
