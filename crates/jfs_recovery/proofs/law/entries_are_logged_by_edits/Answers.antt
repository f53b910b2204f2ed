use Rattle.jfs_recovery.proofs.Logged.{logged_by_edits}
use Rattle.jfs_recovery.proofs.law.entries_are_logged_by_edits.Goals as goal

pub returns : goal.returns
returns g c = let f = g.V.VolumeFace.face in logged_by_edits f
