use Rattle.jfs_records.proofs.Marked.{last_decides}
use Rattle.jfs_records.proofs.law.last_mark_decides.Goals as goal

pub returns : goal.returns
returns c = last_decides
