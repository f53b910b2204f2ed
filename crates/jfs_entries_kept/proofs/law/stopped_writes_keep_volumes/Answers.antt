use Rattle.jfs_entries_kept.proofs.Kept.{kept_stop_law}
use Rattle.jfs_entries_kept.proofs.Stopped.{stop_law}
use Rattle.jfs_entries_kept.proofs.law.stopped_writes_keep_volumes.Goals as goal

pub returns-clause-held : goal.returns-clause-held
returns-clause-held c = stop_law

pub returns-clause-kept : goal.returns-clause-kept
returns-clause-kept c = kept_stop_law
