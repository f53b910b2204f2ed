use Rattle.jfs_pages_held.proofs.Beside.{dirty_law}
use Rattle.jfs_pages_held.proofs.law.only_entries_dirty_pages.Goals as goal

pub returns : goal.returns
returns c = dirty_law
