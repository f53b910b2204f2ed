use Rattle.jfs_face.proofs.InRow.{redo_law}
use Rattle.jfs_face.proofs.law.redo_goes_edit_by_edit.Goals as goal

pub returns : goal.returns
returns c = redo_law
