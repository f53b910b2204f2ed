use Rattle.jfs_kinds.proofs.Logged.{logged_law}
use Rattle.jfs_kinds.proofs.law.logged_pages_give_objects.Goals as goal

pub returns : goal.returns
returns c = logged_law
