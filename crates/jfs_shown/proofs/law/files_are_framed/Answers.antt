use Rattle.jfs_shown.proofs.Places.{files_law}
use Rattle.jfs_shown.proofs.law.files_are_framed.Goals as goal

pub returns : goal.returns
returns c = files_law
