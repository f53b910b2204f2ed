use Rattle.jfs_kept_volumes.proofs.Made.{made_law, start_law}
use Rattle.jfs_kept_volumes.proofs.law.changes_lead_to_keepers.Goals as goal

pub returns-clause-start : goal.returns-clause-start
returns-clause-start c = start_law

pub returns-clause-made : goal.returns-clause-made
returns-clause-made c = made_law
