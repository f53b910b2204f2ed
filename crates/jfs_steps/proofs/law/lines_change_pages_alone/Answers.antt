use Rattle.jfs_steps.proofs.After.{lines_alone}
use Rattle.jfs_steps.proofs.law.lines_change_pages_alone.Goals as goal

pub returns : goal.returns
returns c = lines_alone
