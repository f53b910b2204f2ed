use Rattle.jfs_kept_history.proofs.Nodes.{nodes_law}
use Rattle.jfs_kept_history.proofs.law.like_volumes_have_the_same_nodes.Goals as goal

pub returns : goal.returns
returns c = nodes_law
