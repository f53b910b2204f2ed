use Rattle.jfs_entries_kept.proofs.Kept.{kept_reply_law}
use Rattle.jfs_entries_kept.proofs.Replied.{reply_law}
use Rattle.jfs_entries_kept.proofs.law.replies_keep_volumes.Goals as goal

pub returns-clause-held : goal.returns-clause-held
returns-clause-held c = reply_law

pub returns-clause-kept : goal.returns-clause-kept
returns-clause-kept c = kept_reply_law
