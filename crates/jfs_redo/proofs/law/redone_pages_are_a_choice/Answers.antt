use Rattle.jfs_redo.proofs.Chosen.{redone_is_choice}
use Rattle.jfs_redo.proofs.law.redone_pages_are_a_choice.Goals as goal

pub returns : goal.returns
returns c = redone_is_choice
