use Rattle.jfs_logged.proofs.Edited.{edits_law}
use Rattle.jfs_logged.proofs.law.edits_of_objects_are_logged.Goals as goal

pub returns : goal.returns
returns c = edits_law
