use Rattle.jfs_entries_kept.proofs.Entered.{entry_law}
use Rattle.jfs_entries_kept.proofs.Kept.{kept_entry_law}
use Rattle.jfs_entries_kept.proofs.law.entries_keep_volumes.Goals as goal

pub returns-clause-held : goal.returns-clause-held
returns-clause-held c = entry_law

pub returns-clause-kept : goal.returns-clause-kept
returns-clause-kept c = kept_entry_law
