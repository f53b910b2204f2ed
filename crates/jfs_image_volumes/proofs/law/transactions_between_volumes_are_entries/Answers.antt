use Rattle.jfs_image_volumes.proofs.Enters.{entered_law}
use Rattle.jfs_image_volumes.proofs.law.transactions_between_volumes_are_entries.Goals as goal

pub returns : goal.returns
returns c = entered_law
