use Rattle.jfs_entries_kept.proofs.Asked.{asked_law, unreserved_law}
use Rattle.jfs_entries_kept.proofs.Kept.{kept_asked_law}
use Rattle.jfs_entries_kept.proofs.law.questions_keep_volumes.Goals as goal

pub returns-clause-asked : goal.returns-clause-asked
returns-clause-asked c = asked_law

pub returns-clause-unreserved : goal.returns-clause-unreserved
returns-clause-unreserved c = unreserved_law

pub returns-clause-kept : goal.returns-clause-kept
returns-clause-kept c = kept_asked_law
