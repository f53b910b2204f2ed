use Rattle.jfs_redone_volumes.proofs.Redone.{redone_law}
use Rattle.jfs_redone_volumes.proofs.law.redo_leaves_what_the_core_redoes.Goals as goal

pub returns : goal.returns
returns c = redone_law
