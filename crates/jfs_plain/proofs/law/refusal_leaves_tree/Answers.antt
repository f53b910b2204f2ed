use Rattle.jfs_plain.proofs.Refusing.{refusal_leaves}
use Rattle.jfs_plain.proofs.law.refusal_leaves_tree.Goals as goal

pub returns : goal.returns
returns c = refusal_leaves
