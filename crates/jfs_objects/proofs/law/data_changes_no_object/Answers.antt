use Rattle.jfs_objects.proofs.Data.{data_law}
use Rattle.jfs_objects.proofs.law.data_changes_no_object.Goals as goal

pub returns : goal.returns
returns c = data_law
