use Rattle.jfs_recovery.proofs.EditByEdit.{edit_by_edit}
use Rattle.jfs_recovery.proofs.law.redo_runs_edit_by_edit.Goals as goal

pub returns : goal.returns
returns g c = let f = g.V.VolumeFace.face in edit_by_edit f
