use Rattle.jfs_pages_held.proofs.Called.{called_law}
use Rattle.jfs_pages_held.proofs.law.joined_calls_keep_pages.Goals as goal

pub returns : goal.returns
returns c = called_law
