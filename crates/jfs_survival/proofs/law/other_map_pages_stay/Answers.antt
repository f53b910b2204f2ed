use Rattle.jfs_survival.proofs.MapsMarked.{marked_law}
use Rattle.jfs_survival.proofs.law.other_map_pages_stay.Goals as goal

pub returns : goal.returns
returns c = marked_law
