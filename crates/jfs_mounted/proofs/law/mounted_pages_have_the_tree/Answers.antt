use Rattle.jfs_mounted.proofs.Marked.{marked_law}
use Rattle.jfs_mounted.proofs.law.mounted_pages_have_the_tree.Goals as goal

pub returns : goal.returns
returns c = marked_law
